-- What is left are terms where all are, and each call goes down.
use Rattle.std.proofs.Common.{◌≡◌, ◌+◌, ◌*◌, drop}
use Rattle.erl_ast.specs.Forms.{are_terms}
use Rattle.erl_ast.specs.Tree.{tree_depth, trees_depth}
use Rattle.erl_ast.specs.TreeForms.{tree, trees}
use Rattle.module_forms.proofs.attributes.+term.Given as goal

abbrev pub decreases-is_term : goal.decreases-is_term
decreases-is_term l = 2 * tree_depth (tree l.tree.now)

abbrev pub decreases-are_terms : goal.decreases-are_terms
decreases-are_terms l = 2 * trees_depth (trees l.parts.now) + 1

abbrev pub invariant-are_terms-loop-part : goal.invariant-are_terms-loop-part
invariant-are_terms-loop-part l = are_terms (trees l.parts) ≡ are_terms (trees (drop l.part-index l.parts))
