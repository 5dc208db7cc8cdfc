-- A part is no deeper than its row, and fits where what is left does.
use Rattle.std.proofs.Common.{rules}
use Rattle.erl_expressions.proofs.Rows.{tree_in}
use Rattle.erl_expressions.proofs.patterns.+fits.Goals as goal

pub fit_pattern-fits_pattern-requires : goal.fit_pattern-fits_pattern-requires
fit_pattern-fits_pattern-requires t c =
    let smaller = tree_in c.args.parts.now c.loop-part.part-index c.part-item.result c.loop-part-test.true c.part-item.is in
    search rules
