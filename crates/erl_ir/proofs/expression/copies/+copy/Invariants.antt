-- What was copied so far is equal, and each call goes down.
use Rattle.std.proofs.Common.{◌≡◌, ◌+◌, ◌*◌, take}
use Rattle.erl_ir.specs.ExpressionForms.{expr, exprs, guards, clauses}
use Rattle.erl_ir.specs.Heights.{expr_height, exprs_height, guards_height, clauses_height}
use Rattle.erl_ir.proofs.ExpressionRows.{clause_height}
use Rattle.erl_ir.proofs.expression.copies.+copy.Given as goal

abbrev pub decreases-ExpressionDuplicate::copy : goal.decreases-ExpressionDuplicate::copy
decreases-ExpressionDuplicate::copy l = 3 * expr_height (expr l.self.now)

abbrev pub decreases-ExpressionsDuplicate::copy : goal.decreases-ExpressionsDuplicate::copy
decreases-ExpressionsDuplicate::copy l = 3 * exprs_height l.self.now + 2

abbrev pub decreases-GuardDuplicate::copy : goal.decreases-GuardDuplicate::copy
decreases-GuardDuplicate::copy l = 3 * guards_height l.self.now + 2

abbrev pub decreases-ClauseDuplicate::copy : goal.decreases-ClauseDuplicate::copy
decreases-ClauseDuplicate::copy l = 3 * clause_height l.self.now

abbrev pub decreases-ClausesDuplicate::copy : goal.decreases-ClausesDuplicate::copy
decreases-ClausesDuplicate::copy l = 3 * clauses_height l.self.now + 2

abbrev pub decreases-copied_expressions : goal.decreases-copied_expressions
decreases-copied_expressions l = 3 * exprs_height (exprs l.items.now) + 1

abbrev pub decreases-copied_guards : goal.decreases-copied_guards
decreases-copied_guards l = 3 * guards_height (guards l.items.now) + 1

abbrev pub decreases-copied_clauses : goal.decreases-copied_clauses
decreases-copied_clauses l = 3 * clauses_height (clauses l.items.now) + 1

abbrev pub invariant-copied_expressions-loop-item : goal.invariant-copied_expressions-loop-item
invariant-copied_expressions-loop-item l = l.copied.items ≡ take l.item-index l.items

abbrev pub invariant-copied_guards-loop-item : goal.invariant-copied_guards-loop-item
invariant-copied_guards-loop-item l = l.copied.items ≡ take l.item-index l.items

abbrev pub invariant-copied_clauses-loop-item : goal.invariant-copied_clauses-loop-item
invariant-copied_clauses-loop-item l = l.copied.items ≡ take l.item-index l.items
