-- Rows are equal exactly where their items are.
use Rattle.std.proofs.Common.{ap, sym, ◌∙◌, rules}
use Rattle.erl_ir.specs.ExpressionForms.{exprs, guards, clauses}
use Rattle.erl_ir.proofs.ExpressionRows.{exprs-same, guards-same, clauses-same, expression_in, tests_in, clause_in}
use Rattle.erl_ir.proofs.expression.same.+same.Goals as goal

pub ExpressionsSame::same-returns : goal.ExpressionsSame::same-returns
ExpressionsSame::same-returns t c =
    let mine = c.as_slice.ensures in
    let its = c.as_slice-2.ensures in
    (λ yes. sym mine ∙ ap exprs (c.same_expressions.ensures.0 yes) ∙ its, λ e. c.same_expressions.ensures.1 (exprs-same _ _ (mine ∙ e ∙ sym its)))

pub GuardSame::same-returns : goal.GuardSame::same-returns
GuardSame::same-returns t c =
    let mine = c.as_slice.ensures in
    let its = c.as_slice-2.ensures in
    (λ yes. sym mine ∙ ap guards (c.same_guards.ensures.0 yes) ∙ its, λ e. c.same_guards.ensures.1 (guards-same _ _ (mine ∙ e ∙ sym its)))

pub ClausesSame::same-returns : goal.ClausesSame::same-returns
ClausesSame::same-returns t c =
    let mine = c.as_slice.ensures in
    let its = c.as_slice-2.ensures in
    (λ yes. sym mine ∙ ap clauses (c.same_clauses.ensures.0 yes) ∙ its, λ e. c.same_clauses.ensures.1 (clauses-same _ _ (mine ∙ e ∙ sym its)))

pub same_expressions-same-requires : goal.same_expressions-same-requires
same_expressions-same-requires t c =
    let smaller = expression_in c.args.es.now c.loop-i.i c.index-es-i.result c.loop-i-test.true c.index-es-i.is in
    search rules

pub same_guards-same-requires : goal.same_guards-same-requires
same_guards-same-requires t c =
    let smaller = tests_in c.args.gs.now c.loop-i.i c.index-gs-i.result c.loop-i-test.true c.index-gs-i.is in
    search rules

pub same_clauses-same-requires : goal.same_clauses-same-requires
same_clauses-same-requires t c =
    let smaller = clause_in c.args.cs.now c.loop-i.i c.index-cs-i.result c.loop-i-test.true c.index-cs-i.is in
    search rules
