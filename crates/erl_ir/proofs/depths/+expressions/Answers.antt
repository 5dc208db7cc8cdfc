-- One item more, and it is no higher than its row.
use Rattle.std.proofs.Common.{rules}
use Rattle.erl_ir.proofs.ExpressionRows.{expression_in, tests_in, clause_in, exprs_more, guards_more, clauses_more}
use Rattle.erl_ir.proofs.depths.+expressions.Goals as goal

pub depth_of_row-depth_of_expression-requires : goal.depth_of_row-depth_of_expression-requires
depth_of_row-depth_of_expression-requires t c =
    let smaller = expression_in c.args.row.now c.loop-expression.expression-index c.expression-item.result c.loop-expression-test.true c.expression-item.is in
    search rules

pub depth_of_row-loop-expression-preserved : goal.depth_of_row-loop-expression-preserved
depth_of_row-loop-expression-preserved t c =
    let next = exprs_more c.args.row.now c.loop-expression.expression-index c.expression-item.result c.loop-expression-test.true c.expression-item.is in
    search rules

pub depth_of_guards-depth_of_row-requires : goal.depth_of_guards-depth_of_row-requires
depth_of_guards-depth_of_row-requires t c =
    let smaller = tests_in c.args.alternatives.now c.loop-tests.tests-index c.tests-item.result c.loop-tests-test.true c.tests-item.is in
    search rules

pub depth_of_guards-loop-tests-preserved : goal.depth_of_guards-loop-tests-preserved
depth_of_guards-loop-tests-preserved t c =
    let next = guards_more c.args.alternatives.now c.loop-tests.tests-index c.tests-item.result c.loop-tests-test.true c.tests-item.is in
    search rules

pub depth_of_clauses-depth_of_guards-guards-requires : goal.depth_of_clauses-depth_of_guards-guards-requires
depth_of_clauses-depth_of_guards-guards-requires t c =
    let smaller = clause_in c.args.items.now c.loop-clause.clause-index c.clause-item.result c.loop-clause-test.true c.clause-item.is in
    search rules

pub depth_of_clauses-depth_of_row-body-requires : goal.depth_of_clauses-depth_of_row-body-requires
depth_of_clauses-depth_of_row-body-requires t c =
    let smaller = clause_in c.args.items.now c.loop-clause.clause-index c.clause-item.result c.loop-clause-test.true c.clause-item.is in
    search rules

pub depth_of_clauses-loop-clause-preserved : goal.depth_of_clauses-loop-clause-preserved
depth_of_clauses-loop-clause-preserved t c =
    let next = clauses_more c.args.items.now c.loop-clause.clause-index c.clause-item.result c.loop-clause-test.true c.clause-item.is in
    search rules
