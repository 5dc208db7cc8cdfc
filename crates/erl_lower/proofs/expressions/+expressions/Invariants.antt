-- What is made so far and what is left make the row, and each call goes down.
use Rattle.std.proofs.Common.{◌≡◌, ◌+◌, ◌*◌, drop}
use Rattle.erl_ast.specs.TreeForms.{tree, trees, guards, clauses}
use Rattle.erl_ast.specs.Heights.{tree_height, trees_height, guards_height, clauses_height}
use Rattle.erl_lint.specs.Scopes.{with_names, binds_in}
use Rattle.erl_lower.specs.Expressions.{clauses_of, guards_of, row_of}
use Rattle.erl_lower.proofs.Rows.{clause_height, onto_clauses, onto_exprs, onto_guards}
use Rattle.erl_lower.proofs.expressions.+expressions.Given as goal

abbrev pub decreases-lower_expression : goal.decreases-lower_expression
decreases-lower_expression l = 5 * tree_height (tree l.tree.now)

abbrev pub decreases-lower_node : goal.decreases-lower_node
decreases-lower_node l = 5 * trees_height l.parts.now + 4

abbrev pub decreases-lower_match : goal.decreases-lower_match
decreases-lower_match l = 5 * trees_height (trees l.parts.now) + 3

abbrev pub decreases-lower_connected : goal.decreases-lower_connected
decreases-lower_connected l = 5 * trees_height (trees l.parts.now) + 3

abbrev pub decreases-lower_row : goal.decreases-lower_row
decreases-lower_row l = 5 * trees_height (trees l.row.now) + 1

abbrev pub decreases-lower_inside : goal.decreases-lower_inside
decreases-lower_inside l = 5 * trees_height (trees l.row.now) + 2

abbrev pub decreases-lower_guards : goal.decreases-lower_guards
decreases-lower_guards l = 5 * guards_height (guards l.alternatives.now) + 1

abbrev pub decreases-lower_clause : goal.decreases-lower_clause
decreases-lower_clause l = 5 * clause_height l.tree.now

abbrev pub decreases-lower_clauses : goal.decreases-lower_clauses
decreases-lower_clauses l = 5 * clauses_height (clauses l.row.now) + 1

abbrev pub invariant-lower_row-loop-tree : goal.invariant-lower_row-loop-tree
invariant-lower_row-loop-tree l =
    (onto_exprs l.items.items (row_of l.own l.scope (trees (drop l.tree-index l.row))) ≡ row_of l.own l.fn.scope (trees l.row)) ×
    (with_names l.scope (binds_in (trees (drop l.tree-index l.row))) ≡ with_names l.fn.scope (binds_in (trees l.row)))

abbrev pub invariant-lower_guards-loop-tests : goal.invariant-lower_guards-loop-tests
invariant-lower_guards-loop-tests l =
    (onto_guards l.items.items (guards_of l.own l.scope (guards (drop l.tests-index l.alternatives))) ≡
    guards_of l.own l.fn.scope (guards l.alternatives)) × (l.scope ≡ l.fn.scope)

abbrev pub invariant-lower_clauses-loop-clause : goal.invariant-lower_clauses-loop-clause
invariant-lower_clauses-loop-clause l =
    (onto_clauses l.items.items (clauses_of l.own l.scope (clauses (drop l.clause-index l.row))) ≡
    clauses_of l.own l.fn.scope (clauses l.row)) × (l.scope ≡ l.fn.scope)
