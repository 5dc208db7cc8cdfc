-- The patterns so far are bound, and each call goes down.
use Rattle.std.proofs.Common.{◌≡◌, ◌+◌, ◌*◌, take}
use Rattle.erl_ast.specs.TreeForms.{tree, trees}
use Rattle.erl_ast.specs.Heights.{tree_height, trees_height}
use Rattle.erl_lint.specs.Scopes.{with_names, pattern_names_in}
use Rattle.erl_lint.proofs.binding.+patterns.Given as goal

abbrev pub decreases-bind_pattern : goal.decreases-bind_pattern
decreases-bind_pattern l = 2 * tree_height (tree l.pattern.now)

abbrev pub decreases-bind_patterns : goal.decreases-bind_patterns
decreases-bind_patterns l = 2 * trees_height (trees l.row.now) + 1

abbrev pub invariant-bind_patterns-loop-pattern : goal.invariant-bind_patterns-loop-pattern
invariant-bind_patterns-loop-pattern l = l.scope ≡ with_names l.fn.scope (pattern_names_in (trees (take l.pattern-index l.row)))
