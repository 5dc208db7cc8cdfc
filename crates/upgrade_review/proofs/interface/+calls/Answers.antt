-- One item more is appended, and it is no higher than its row.
use Rattle.std.proofs.Common.{◌≡◌, ◌∙◌, ◌++◌, OnOk, ap, subst, sym, rules}
use Rattle.erl_ir.proofs.ExpressionRows.{clause_in, expression_in, tests_in}
use Rattle.erl_ir.specs.ExpressionForms.{clauses, expr, exprs, guards}
use Rattle.erl_ir.specs.declared.expression.Expression.{Expression}
use Rattle.upgrade_review.proofs.Calling.{appended, call_appended, calls_in_clause, clauses_push, guards_push, item_appended, row_push}
use Rattle.upgrade_review.specs.Interfaces.{calls_in, calls_in_clauses, calls_in_guards, calls_in_row}
use Rattle.upgrade_review.proofs.interface.+calls.Goals as goal

pub push_row-push_expression-requires : goal.push_row-push_expression-requires
push_row-push_expression-requires t c =
    let smaller = expression_in c.args.row.now c.loop-expression.expression-index c.expression-item.result c.loop-expression-test.true c.expression-item.is in
    search rules

pub push_row-loop-expression-preserved : goal.push_row-loop-expression-preserved
push_row-loop-expression-preserved t c =
    item_appended (λ es. calls_in_row (exprs es)) (λ e. calls_in (expr e)) row_push c.args.row.now c.loop-expression.expression-index
    c.expression-item.result c.args.found.now.items c.loop-expression.found.items c.push_expression.new.found.items
    c.loop-expression-test.true c.expression-item.is c.loop-expression.invariant c.in_ok-push_expression.ensures

pub push_guards-push_row-requires : goal.push_guards-push_row-requires
push_guards-push_row-requires t c =
    let smaller = tests_in c.args.alternatives.now c.loop-tests.tests-index c.tests-item.result c.loop-tests-test.true c.tests-item.is in
    search rules

pub push_guards-loop-tests-preserved : goal.push_guards-loop-tests-preserved
push_guards-loop-tests-preserved t c =
    item_appended (λ gs. calls_in_guards (guards gs)) calls_in_row guards_push c.args.alternatives.now c.loop-tests.tests-index
    c.tests-item.result c.args.found.now.items c.loop-tests.found.items c.push_row.new.found.items
    c.loop-tests-test.true c.tests-item.is c.loop-tests.invariant
    (c.in_ok-push_row.ensures ∙ ap (λ es. c.loop-tests.found.items ++ calls_in_row es) c.as_slice.ensures)

pub push_clauses-push_guards-requires : goal.push_clauses-push_guards-requires
push_clauses-push_guards-requires t c =
    let smaller = clause_in c.args.items.now c.loop-clause.clause-index c.clause-item.result c.loop-clause-test.true c.clause-item.is in
    search rules

pub push_clauses-push_row-requires : goal.push_clauses-push_row-requires
push_clauses-push_row-requires t c =
    let smaller = clause_in c.args.items.now c.loop-clause.clause-index c.clause-item.result c.loop-clause-test.true c.clause-item.is in
    search rules

pub push_clauses-loop-clause-preserved : goal.push_clauses-loop-clause-preserved
push_clauses-loop-clause-preserved t c =
    item_appended (λ cs. calls_in_clauses (clauses cs)) calls_in_clause clauses_push c.args.items.now c.loop-clause.clause-index
    c.clause-item.result c.args.found.now.items c.loop-clause.found.items c.push_row.new.found.items
    c.loop-clause-test.true c.clause-item.is c.loop-clause.invariant
    (appended c.loop-clause.found.items c.push_guards.new.found.items c.push_row.new.found.items
    (calls_in_guards c.clause-item.result.guard) (calls_in_row c.clause-item.result.body)
    (c.in_ok-push_guards.ensures ∙ ap (λ gs. c.loop-clause.found.items ++ calls_in_guards gs) c.as_slice.ensures)
    (c.in_ok-push_row.ensures ∙ ap (λ es. c.push_guards.new.found.items ++ calls_in_row es) c.as_slice-in-loop-clause.ensures))

pub push_expression-returns-in_ok-push_operation-in-Apply : goal.push_expression-returns-in_ok-push_operation-in-Apply
push_expression-returns-in_ok-push_operation-in-Apply t c =
    let op = c.in-Apply.operation in
    let old = c.args.found.now.items in
    let new = c.push_row.new.found.items in
    let all = call_appended c.push_row.result op c.as_slice-row.result.now c.in-Apply.operands old
    c.push_operation.new.found.items new c.as_slice-row.ensures c.in_ok-push_operation-in-Apply.ensures c.push_row.ensures in
    subst (λ (e : Expression). OnOk c.push_row.result (new ≡ old ++ calls_in (expr e))) (sym c.in-Apply.is) all
