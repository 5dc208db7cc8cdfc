-- Rows are equal exactly where their terms are.
use Rattle.std.proofs.Common.{ap, sym, ◌∙◌, rules}
use Rattle.erl_term.specs.Term.{trees, trees-same}
use Rattle.erl_term.proofs.Rows.{depth_in}
use Rattle.erl_term.proofs.term.+same.Goals as goal

pub TermsSame::same-returns : goal.TermsSame::same-returns
TermsSame::same-returns t c =
    let mine = c.as_slice.ensures in
    let its = c.as_slice-2.ensures in
    (λ yes. sym mine ∙ ap trees (c.same_rows.ensures.0 yes) ∙ its, λ e. c.same_rows.ensures.1 (trees-same _ _ (mine ∙ e ∙ sym its)))

pub same_rows-same-requires : goal.same_rows-same-requires
same_rows-same-requires t c =
    let smaller = depth_in c.args.ts.now c.loop-i.i c.index-ts-i.result c.loop-i-test.true c.index-ts-i.is in
    search rules
