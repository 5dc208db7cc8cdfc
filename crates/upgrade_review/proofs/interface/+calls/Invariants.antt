-- The calls so far are appended, and each step goes down in height.
use Rattle.std.proofs.Common.{◌≡◌, ◌+◌, ◌*◌, ◌++◌, take}
use Rattle.erl_ir.specs.ExpressionForms.{clauses, expr, exprs, guards}
use Rattle.erl_ir.specs.Heights.{clauses_height, expr_height, exprs_height, guards_height}
use Rattle.upgrade_review.specs.Interfaces.{calls_in_clauses, calls_in_guards, calls_in_row}
use Rattle.upgrade_review.proofs.interface.+calls.Given as goal

abbrev pub decreases-push_expression : goal.decreases-push_expression
decreases-push_expression l = 2 * expr_height (expr l.expression.now)

abbrev pub decreases-push_row : goal.decreases-push_row
decreases-push_row l = 2 * exprs_height (exprs l.row.now) + 1

abbrev pub decreases-push_guards : goal.decreases-push_guards
decreases-push_guards l = 2 * guards_height (guards l.alternatives.now) + 1

abbrev pub decreases-push_clauses : goal.decreases-push_clauses
decreases-push_clauses l = 2 * clauses_height (clauses l.items.now) + 1

abbrev pub invariant-push_row-loop-expression : goal.invariant-push_row-loop-expression
invariant-push_row-loop-expression l = l.found.items ≡ l.fn.found.items ++ calls_in_row (exprs (take l.expression-index l.row))

abbrev pub invariant-push_guards-loop-tests : goal.invariant-push_guards-loop-tests
invariant-push_guards-loop-tests l =
    l.found.items ≡ l.fn.found.items ++ calls_in_guards (guards (take l.tests-index l.alternatives))

abbrev pub invariant-push_clauses-loop-clause : goal.invariant-push_clauses-loop-clause
invariant-push_clauses-loop-clause l =
    l.found.items ≡ l.fn.found.items ++ calls_in_clauses (clauses (take l.clause-index l.items))
