-- The greatest depth so far, and each call goes down.
use Rattle.std.proofs.Common.{◌≡◌, ◌+◌, ◌-◌, ◌*◌, ◌^◌, min, take}
use Rattle.erl_ir.specs.Expression.{exprs_depth, guards_depth, clauses_depth}
use Rattle.erl_ir.specs.ExpressionForms.{expr, exprs, guards, clauses}
use Rattle.erl_ir.specs.Heights.{expr_height, exprs_height, guards_height, clauses_height}
use Rattle.erl_ir.proofs.depths.+expressions.Given as goal

abbrev pub decreases-depth_of_expression : goal.decreases-depth_of_expression
decreases-depth_of_expression l = 2 * expr_height (expr l.expression.now)

abbrev pub decreases-depth_of_row : goal.decreases-depth_of_row
decreases-depth_of_row l = 2 * exprs_height (exprs l.row.now) + 1

abbrev pub decreases-depth_of_guards : goal.decreases-depth_of_guards
decreases-depth_of_guards l = 2 * guards_height (guards l.alternatives.now) + 1

abbrev pub decreases-depth_of_clauses : goal.decreases-depth_of_clauses
decreases-depth_of_clauses l = 2 * clauses_height (clauses l.items.now) + 1

abbrev pub invariant-depth_of_row-loop-expression : goal.invariant-depth_of_row-loop-expression
invariant-depth_of_row-loop-expression l = l.depth ≡ min (exprs_depth (exprs (take l.expression-index l.row))) (2 ^ 64 - 1)

abbrev pub invariant-depth_of_guards-loop-tests : goal.invariant-depth_of_guards-loop-tests
invariant-depth_of_guards-loop-tests l = l.depth ≡ min (guards_depth (guards (take l.tests-index l.alternatives))) (2 ^ 64 - 1)

abbrev pub invariant-depth_of_clauses-loop-clause : goal.invariant-depth_of_clauses-loop-clause
invariant-depth_of_clauses-loop-clause l = l.depth ≡ min (clauses_depth (clauses (take l.clause-index l.items))) (2 ^ 64 - 1)
