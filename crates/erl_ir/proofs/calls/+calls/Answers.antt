-- One item more is noted, and it is no higher than its row.
use Rattle.std.proofs.Common.{ap, ◌∙◌, rules}
use Rattle.erl_ir.specs.Module.{called_in_row, called_in_guards}
use Rattle.erl_ir.proofs.ExpressionRows.{expression_in, tests_in, clause_in}
use Rattle.erl_ir.proofs.Noting.{noted, noted_then, row_noted, guards_noted, clauses_noted}
use Rattle.erl_ir.proofs.calls.+calls.Goals as goal

pub note_row-note_expression-requires : goal.note_row-note_expression-requires
note_row-note_expression-requires t c =
    let smaller = expression_in c.args.row.now c.loop-expression.expression-index c.expression-item.result c.loop-expression-test.true c.expression-item.is in
    search rules

pub note_row-loop-expression-preserved : goal.note_row-loop-expression-preserved
note_row-loop-expression-preserved t c =
    row_noted c.args.row.now c.loop-expression.expression-index c.expression-item.result c.args.names.now.keys c.loop-expression.names.keys c.note_expression.new.names.keys
    c.loop-expression-test.true c.expression-item.is c.loop-expression.invariant c.in_ok-note_expression.ensures

pub note_guards-note_row-requires : goal.note_guards-note_row-requires
note_guards-note_row-requires t c =
    let smaller = tests_in c.args.alternatives.now c.loop-tests.tests-index c.tests-item.result c.loop-tests-test.true c.tests-item.is in
    search rules

pub note_guards-loop-tests-preserved : goal.note_guards-loop-tests-preserved
note_guards-loop-tests-preserved t c =
    guards_noted c.args.alternatives.now c.loop-tests.tests-index c.tests-item.result c.args.names.now.keys c.loop-tests.names.keys c.note_row.new.names.keys
    c.loop-tests-test.true c.tests-item.is c.loop-tests.invariant
    (c.in_ok-note_row.ensures ∙ ap (λ es. noted c.loop-tests.names.keys (called_in_row es)) c.as_slice.ensures)

pub note_clauses-note_guards-requires : goal.note_clauses-note_guards-requires
note_clauses-note_guards-requires t c =
    let smaller = clause_in c.args.items.now c.loop-clause.clause-index c.clause-item.result c.loop-clause-test.true c.clause-item.is in
    search rules

pub note_clauses-note_row-requires : goal.note_clauses-note_row-requires
note_clauses-note_row-requires t c =
    let smaller = clause_in c.args.items.now c.loop-clause.clause-index c.clause-item.result c.loop-clause-test.true c.clause-item.is in
    search rules

pub note_clauses-loop-clause-preserved : goal.note_clauses-loop-clause-preserved
note_clauses-loop-clause-preserved t c =
    clauses_noted c.args.items.now c.loop-clause.clause-index c.clause-item.result c.args.names.now.keys c.loop-clause.names.keys c.note_row.new.names.keys
    c.loop-clause-test.true c.clause-item.is c.loop-clause.invariant
    (noted_then c.loop-clause.names.keys c.note_guards.new.names.keys c.note_row.new.names.keys (called_in_guards c.clause-item.result.guard) (called_in_row c.clause-item.result.body)
    (c.in_ok-note_guards.ensures ∙ ap (λ gs. noted c.loop-clause.names.keys (called_in_guards gs)) c.as_slice.ensures)
    (c.in_ok-note_row.ensures ∙ ap (λ es. noted c.note_guards.new.names.keys (called_in_row es)) c.as_slice-in-loop-clause.ensures))
