-- The patterns so far and what is left make the row, and each call goes down.
use Rattle.std.proofs.Common.{◌≡◌, ◌+◌, ◌*◌, drop}
use Rattle.erl_ast.specs.TreeForms.{tree, trees}
use Rattle.erl_ast.specs.Heights.{tree_height, trees_height}
use Rattle.erl_lint.specs.Scopes.{with_names, pattern_names_in}
use Rattle.erl_lower.specs.Patterns.{patterns_of}
use Rattle.erl_lower.proofs.Rows.{onto_pats}
use Rattle.erl_lower.proofs.patterns.+patterns.Given as goal

abbrev pub decreases-lower_pattern : goal.decreases-lower_pattern
decreases-lower_pattern l = 3 * tree_height (tree l.tree.now)

abbrev pub decreases-lower_patterns : goal.decreases-lower_patterns
decreases-lower_patterns l = 3 * trees_height (trees l.row.now) + 1

abbrev pub invariant-lower_patterns-loop-tree : goal.invariant-lower_patterns-loop-tree
invariant-lower_patterns-loop-tree l =
    (onto_pats l.items.items (patterns_of l.own l.scope (trees (drop l.tree-index l.row))) ≡ patterns_of l.own l.fn.scope (trees l.row)) ×
    (with_names l.scope (pattern_names_in (trees (drop l.tree-index l.row))) ≡ with_names l.fn.scope (pattern_names_in (trees l.row)))
