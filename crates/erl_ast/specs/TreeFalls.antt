-- What a row holds stands less high than the row: so a recursion down a tree ends.
use Rattle.std.specs.Prelude.{◌≤◌, ◌+◌, List, [], ◌∷◌}
use Rattle.std.proofs.Common.{arith}
use denote.Param.Weighed.{most}
use Rattle.erl_ast.specs.declared.tree.SyntaxTree.{SyntaxTree}
use Rattle.erl_ast.specs.declared.tree.SyntaxTree.TheVariants.{Leaf, Node, Case}
use Rattle.erl_ast.specs.declared.tree.ClauseTree.{ClauseTree}
use Rattle.erl_ast.specs.declared.tree.ClauseTrees.TheDeep.{deep-SyntaxTree, deep-ClauseTree}
use Rattle.erl_ast.specs.Tree.{Trees}
use Rattle.erl_ast.specs.TreeForms.{tree, trees, guards, clauses}
use Rattle.erl_ast.specs.Heights.{tree_height, trees_height, guards_height, clauses_height}

pub deep-SyntaxTree_le-height : (t : SyntaxTree) → deep-SyntaxTree t ≤ tree_height (tree t)
deep-SyntaxTree_le-height (Leaf l) = omega arith
deep-SyntaxTree_le-height (Node shape ts) = omega arith
deep-SyntaxTree_le-height (Case subject cs) = omega arith

pub most_le-trees_height : (ts : List SyntaxTree) → most (λ t. deep-SyntaxTree t) ts ≤ trees_height (trees ts)
most_le-trees_height [] = omega arith
most_le-trees_height (t ∷ ts) = omega (arith, most_le-trees_height ts, deep-SyntaxTree_le-height t)

pub most_le-guards_height : (gs : List Trees) → most (λ tests. trees_height tests + 1) gs ≤ guards_height (guards gs)
most_le-guards_height [] = omega arith
most_le-guards_height (tests ∷ gs) = omega (arith, most_le-guards_height gs)

pub most_le-clauses_height : (cs : List ClauseTree) → most (λ c. deep-ClauseTree c) cs ≤ clauses_height (clauses cs)
most_le-clauses_height [] = omega arith
most_le-clauses_height (c ∷ cs) = omega (arith, most_le-clauses_height cs)
