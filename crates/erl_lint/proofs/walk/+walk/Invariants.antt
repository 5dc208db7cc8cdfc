-- The first fault of what was passed is found, and each call goes down.
use Rattle.std.proofs.Common.{◌≡◌, ◌+◌, ◌*◌, take, length}
use Rattle.erl_ast.specs.TreeForms.{tree, trees, guards, clauses}
use Rattle.erl_ast.specs.Heights.{tree_height, trees_height, guards_height, clauses_height}
use Rattle.erl_lint.specs.First.{soonest}
use Rattle.erl_lint.specs.Scopes.{with_names, binds_in}
use Rattle.erl_lint.specs.Faults.{faults_apart, faults_in_turn, faults_in_guards, faults_in_clauses}
use Rattle.erl_lint.proofs.Rows.{clause_height}
use Rattle.erl_lint.proofs.walk.+walk.Given as goal

abbrev pub decreases-first_in_tree : goal.decreases-first_in_tree
decreases-first_in_tree l = 4 * tree_height (tree l.tree.now)

abbrev pub decreases-first_in_parts : goal.decreases-first_in_parts
decreases-first_in_parts l = 4 * trees_height (trees l.parts.now) + 2

abbrev pub decreases-first_in_row : goal.decreases-first_in_row
decreases-first_in_row l = 4 * trees_height (trees l.row.now) + 1

abbrev pub decreases-first_in_turn : goal.decreases-first_in_turn
decreases-first_in_turn l = 4 * trees_height (trees l.row.now) + 1

abbrev pub decreases-first_in_guards : goal.decreases-first_in_guards
decreases-first_in_guards l = 4 * guards_height (guards l.alternatives.now) + 1

abbrev pub decreases-first_in_clause : goal.decreases-first_in_clause
decreases-first_in_clause l = 4 * clause_height l.clause.now

abbrev pub decreases-first_in_clauses : goal.decreases-first_in_clauses
decreases-first_in_clauses l = 4 * clauses_height (clauses l.row.now) + 1

abbrev pub invariant-first_in_row-loop-tree : goal.invariant-first_in_row-loop-tree
invariant-first_in_row-loop-tree l =
    (l.found ≡ soonest l.fn.first (faults_apart l.functions.keys l.fn.scope (trees (take l.tree-index l.row)))) × (l.scope ≡ l.fn.scope)

abbrev pub invariant-first_in_turn-loop-tree : goal.invariant-first_in_turn-loop-tree
invariant-first_in_turn-loop-tree l =
    (l.found ≡ soonest l.fn.first (faults_in_turn l.functions.keys l.fn.scope (trees (take l.tree-index l.row)))) ×
    (l.scope ≡ with_names l.fn.scope (binds_in (trees (take l.tree-index l.row)))) × (l.outer ≡ length l.fn.scope)

abbrev pub invariant-first_in_guards-loop-tests : goal.invariant-first_in_guards-loop-tests
invariant-first_in_guards-loop-tests l =
    (l.found ≡ soonest l.fn.first (faults_in_guards l.functions.keys l.fn.scope (guards (take l.tests-index l.alternatives)))) ×
    (l.scope ≡ l.fn.scope)

abbrev pub invariant-first_in_clauses-loop-clause : goal.invariant-first_in_clauses-loop-clause
invariant-first_in_clauses-loop-clause l =
    (l.found ≡ soonest l.fn.first (faults_in_clauses l.functions.keys l.fn.scope (clauses (take l.clause-index l.row)))) ×
    (l.scope ≡ l.fn.scope)
