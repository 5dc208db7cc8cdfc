-- The rows of all, from the end.
use Rattle.std.proofs.Common.{ap, length, map, reverse, ◌∙◌, arith}
use Rattle.std.proofs.lemmas.List.{take_all}
use Rattle.console_answers.proofs.Taken.{map_reversed}
use Rattle.console_answers.specs.Rows.{release_row}
use Rattle.console_answers.proofs.scripts.release_rows.Goals as goal

pub returns : goal.returns
returns c =
    let all = take_all c.loop-it.it-index c.args.releases.now (omega (arith, c.loop-it-test.false, ap length c.as_slice-it-items.ensures.items)) in
    c.reverse.ensures.items
    ∙ ap reverse (c.loop-it.invariant ∙ ap (map release_row) all)
    ∙ map_reversed release_row c.args.releases.now
