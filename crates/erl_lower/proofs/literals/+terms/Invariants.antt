-- The terms so far and what is left make the row, and each call goes down.
use Rattle.std.proofs.Common.{◌≡◌, ◌+◌, ◌*◌, drop}
use Rattle.erl_ast.specs.TreeForms.{tree, trees}
use Rattle.erl_ast.specs.Heights.{tree_height, trees_height}
use Rattle.erl_lower.specs.Literals.{terms_in}
use Rattle.erl_lower.proofs.Rows.{onto_terms}
use Rattle.erl_lower.proofs.literals.+terms.Given as goal

abbrev pub decreases-lower_term : goal.decreases-lower_term
decreases-lower_term l = 2 * tree_height (tree l.part.now)

abbrev pub decreases-lower_terms : goal.decreases-lower_terms
decreases-lower_terms l = 2 * trees_height (trees l.row.now) + 1

abbrev pub invariant-lower_terms-loop-part : goal.invariant-lower_terms-loop-part
invariant-lower_terms-loop-part l =
    onto_terms l.items.items (terms_in l.own (trees (drop l.part-index l.row))) ≡ terms_in l.own (trees l.row)
