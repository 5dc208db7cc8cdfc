-- Rows are equal exactly where their patterns are.
use Rattle.std.proofs.Common.{ap, sym, ◌∙◌, rules}
use Rattle.erl_ir.specs.PatternForms.{pats}
use Rattle.erl_ir.proofs.PatternRows.{pats-same, depth_in}
use Rattle.erl_ir.proofs.pattern.+same.Goals as goal

pub PatternsSame::same-returns : goal.PatternsSame::same-returns
PatternsSame::same-returns t c =
    let mine = c.as_slice.ensures in
    let its = c.as_slice-2.ensures in
    (λ yes. sym mine ∙ ap pats (c.same_rows.ensures.0 yes) ∙ its, λ e. c.same_rows.ensures.1 (pats-same _ _ (mine ∙ e ∙ sym its)))

pub same_rows-same-requires : goal.same_rows-same-requires
same_rows-same-requires t c =
    let smaller = depth_in c.args.ps.now c.loop-i.i c.index-ps-i.result c.loop-i-test.true c.index-ps-i.is in
    search rules
