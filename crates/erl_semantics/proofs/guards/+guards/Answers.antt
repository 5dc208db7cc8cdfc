-- One operand more, and it is no higher than its row.
use Rattle.std.proofs.Common.{rules, ap, sym, ◌∙◌, drop}
use Rattle.std.proofs.lemmas.List.{drop_all}
use Rattle.erl_term.specs.Term.{tree}
use Rattle.erl_ir.proofs.ExpressionRows.{expression_in}
use Rattle.erl_semantics.proofs.Tests.{row_next, row_ends, row_whole, alone_else}
use Rattle.erl_semantics.specs.Bindings.{bindings}
use Rattle.erl_semantics.specs.Given.{result_of}
use Rattle.erl_semantics.proofs.guards.+guards.Goals as goal

pub test_alone-returns-then-side-ne1 : goal.test_alone-returns-then-side-ne1
test_alone-returns-then-side-ne1 t c =
    let other = alone_else c.args.setting.now.own (bindings c.args.bound.now.base.now c.args.bound.now.fresh.now) c.args.side.now c.args.calls.now c.if-side-ne1.true in
    search rules

pub test_row-test-requires : goal.test_row-test-requires
test_row-test-requires t c =
    let smaller = expression_in c.args.row.now c.loop-expression.expression-index c.expression-item.result c.loop-expression-test.true c.expression-item.is in
    search rules

pub test_row-returns-in-Exit : goal.test_row-returns-in-Exit
test_row-returns-in-Exit t c =
    row_ends _ _ c.args.row.now c.loop-expression.expression-index c.expression-item.result c.loop-expression.values.items
    (tree c.in-Exit.reason) c.loop-expression.calls c.test.new.calls c.loop-expression-test.true c.expression-item.is
    (ap (λ g. (result_of g, c.test.new.calls)) (sym c.in-Exit.is) ∙ c.in_ok-value.ensures) ∙ c.loop-expression.invariant

pub test_row-loop-expression-preserved : goal.test_row-loop-expression-preserved
test_row-loop-expression-preserved t c =
    row_next _ _ c.args.row.now c.loop-expression.expression-index c.expression-item.result c.loop-expression.values.items
    c.push.new.self.items c.in-Value.value c.loop-expression.calls c.test.new.calls c.loop-expression-test.true
    c.expression-item.is (ap (λ g. (result_of g, c.test.new.calls)) (sym c.in-Value.is) ∙ c.in_ok-value.ensures)
    c.in_ok-push-in-Value.ensures.items ∙ c.loop-expression.invariant

pub test_row-returns : goal.test_row-returns
test_row-returns t c =
    row_whole _ _ (drop c.loop-expression.expression-index c.args.row.now) c.loop-expression.values.items
    c.loop-expression.calls (drop_all c.loop-expression.expression-index c.args.row.now c.loop-expression-test.false) ∙
    c.loop-expression.invariant
