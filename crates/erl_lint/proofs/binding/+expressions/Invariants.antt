-- What the expressions so far bind is bound, and each call goes down.
use Rattle.std.proofs.Common.{◌≡◌, ◌+◌, ◌*◌, take}
use Rattle.erl_ast.specs.TreeForms.{tree, trees}
use Rattle.erl_ast.specs.Heights.{tree_height, trees_height}
use Rattle.erl_lint.specs.Scopes.{with_names, binds_in}
use Rattle.erl_lint.proofs.binding.+expressions.Given as goal

abbrev pub decreases-bind_tree : goal.decreases-bind_tree
decreases-bind_tree l = 3 * tree_height (tree l.tree.now)

abbrev pub decreases-bind_row : goal.decreases-bind_row
decreases-bind_row l = 3 * trees_height (trees l.row.now) + 1

abbrev pub decreases-bind_parts : goal.decreases-bind_parts
decreases-bind_parts l = 3 * trees_height (trees l.parts.now) + 2

abbrev pub invariant-bind_row-loop-tree : goal.invariant-bind_row-loop-tree
invariant-bind_row-loop-tree l = l.scope ≡ with_names l.fn.scope (binds_in (trees (take l.tree-index l.row)))
