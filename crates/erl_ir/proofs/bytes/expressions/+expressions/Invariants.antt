-- What is left of the row is still to be written, and each call goes down.
use Rattle.std.proofs.Common.{◌≡◌, ◌+◌, ◌*◌, drop}
use Rattle.erl_ir.specs.ExpressionForms.{expr, exprs, guards, clauses}
use Rattle.erl_ir.specs.Heights.{expr_height, exprs_height, guards_height, clauses_height}
use Rattle.erl_ir.specs.FormsCode.{clauses_code, exprs_code, guards_code}
use Rattle.erl_ir.specs.ModuleBytes.{written}
use Rattle.erl_ir.proofs.bytes.expressions.+expressions.Given as goal

abbrev pub decreases-write_expression : goal.decreases-write_expression
decreases-write_expression l = 2 * expr_height (expr l.expression.now)

abbrev pub decreases-write_row : goal.decreases-write_row
decreases-write_row l = 2 * exprs_height (exprs l.row.now) + 1

abbrev pub decreases-write_guards : goal.decreases-write_guards
decreases-write_guards l = 2 * guards_height (guards l.alternatives.now) + 1

abbrev pub decreases-write_clauses : goal.decreases-write_clauses
decreases-write_clauses l = 2 * clauses_height (clauses l.items.now) + 1

abbrev pub invariant-write_row-loop-expression : goal.invariant-write_row-loop-expression
invariant-write_row-loop-expression l =
    written (exprs_code (exprs (drop l.expression-index l.row))) l.out.items ≡ written (exprs_code (exprs l.row)) l.fn.out.items

abbrev pub invariant-write_guards-loop-tests : goal.invariant-write_guards-loop-tests
invariant-write_guards-loop-tests l =
    written (guards_code (guards (drop l.tests-index l.alternatives))) l.out.items ≡ written (guards_code (guards l.alternatives)) l.fn.out.items

abbrev pub invariant-write_clauses-loop-clause : goal.invariant-write_clauses-loop-clause
invariant-write_clauses-loop-clause l =
    written (clauses_code (clauses (drop l.clause-index l.items))) l.out.items ≡ written (clauses_code (clauses l.items)) l.fn.out.items
