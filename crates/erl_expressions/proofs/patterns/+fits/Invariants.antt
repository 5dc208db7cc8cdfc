-- What is left fits where all does, and each call goes down.
use Rattle.std.proofs.Common.{◌≡◌, ◌+◌, ◌*◌, drop}
use Rattle.erl_ast.specs.Tree.{tree_depth, trees_depth}
use Rattle.erl_ast.specs.TreeForms.{tree, trees}
use Rattle.erl_expressions.specs.Reading.{fit_pattern}
use Rattle.erl_expressions.proofs.patterns.+fits.Given as goal

abbrev pub decreases-fits_pattern : goal.decreases-fits_pattern
decreases-fits_pattern l = 2 * tree_depth (tree l.tree.now)

abbrev pub decreases-fit_pattern : goal.decreases-fit_pattern
decreases-fit_pattern l = 2 * trees_depth (trees l.parts.now) + 1

abbrev pub invariant-fit_pattern-loop-part : goal.invariant-fit_pattern-loop-part
invariant-fit_pattern-loop-part l = fit_pattern (trees l.parts) ≡ fit_pattern (trees (drop l.part-index l.parts))
