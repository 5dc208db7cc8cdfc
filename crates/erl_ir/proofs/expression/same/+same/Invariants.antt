-- What was passed so far is equal, and each call goes down.
use Rattle.std.proofs.Common.{◌≡◌, ◌+◌, ◌*◌, take}
use Rattle.erl_ir.specs.ExpressionForms.{expr, exprs, guards, clauses}
use Rattle.erl_ir.specs.Heights.{expr_height, exprs_height, guards_height, clauses_height}
use Rattle.erl_ir.proofs.ExpressionRows.{clause_height}
use Rattle.erl_ir.proofs.expression.same.+same.Given as goal

abbrev pub decreases-ExpressionSame::same : goal.decreases-ExpressionSame::same
decreases-ExpressionSame::same l = 3 * expr_height (expr l.self.now)

abbrev pub decreases-ExpressionsSame::same : goal.decreases-ExpressionsSame::same
decreases-ExpressionsSame::same l = 3 * exprs_height l.self.now + 2

abbrev pub decreases-GuardSame::same : goal.decreases-GuardSame::same
decreases-GuardSame::same l = 3 * guards_height l.self.now + 2

abbrev pub decreases-ClauseSame::same : goal.decreases-ClauseSame::same
decreases-ClauseSame::same l = 3 * clause_height l.self.now

abbrev pub decreases-ClausesSame::same : goal.decreases-ClausesSame::same
decreases-ClausesSame::same l = 3 * clauses_height l.self.now + 2

abbrev pub decreases-same_expressions : goal.decreases-same_expressions
decreases-same_expressions l = 3 * exprs_height (exprs l.es.now) + 1

abbrev pub decreases-same_guards : goal.decreases-same_guards
decreases-same_guards l = 3 * guards_height (guards l.gs.now) + 1

abbrev pub decreases-same_clauses : goal.decreases-same_clauses
decreases-same_clauses l = 3 * clauses_height (clauses l.cs.now) + 1

abbrev pub invariant-same_expressions-loop-i : goal.invariant-same_expressions-loop-i
invariant-same_expressions-loop-i l = take l.i l.es ≡ take l.i l.fs

abbrev pub invariant-same_guards-loop-i : goal.invariant-same_guards-loop-i
invariant-same_guards-loop-i l = take l.i l.gs ≡ take l.i l.hs

abbrev pub invariant-same_clauses-loop-i : goal.invariant-same_clauses-loop-i
invariant-same_clauses-loop-i l = take l.i l.cs ≡ take l.i l.ds
