-- What syntax trees are to contracts: one level, since contracts see rows of them as such already.
use Rattle.std.specs.Prelude.{List, [], ◌∷◌}
use Rattle.erl_ast.specs.declared.tree.SyntaxTree.{SyntaxTree}
use Rattle.erl_ast.specs.declared.tree.SyntaxTree.TheVariants as variants
use Rattle.erl_ast.specs.declared.tree.ClauseTree.{ClauseTree}
use Rattle.erl_ast.specs.Tree.{Tree, Trees, Guards, Clauses}
use Rattle.erl_ast.specs.Tree.{leaf, node, case, none, more, no_guards, guard, no_clauses, clause}

abbrev pub tree : SyntaxTree → Tree
tree (variants.Leaf l) = leaf l
tree (variants.Node shape ts) = node shape ts
tree (variants.Case subject cs) = case subject cs

abbrev pub trees : List SyntaxTree → Trees
trees [] = none
trees (t ∷ ts) = more (tree t) (trees ts)

abbrev pub guards : List Trees → Guards
guards [] = no_guards
guards (tests ∷ gs) = guard tests (guards gs)

abbrev pub clauses : List ClauseTree → Clauses
clauses [] = no_clauses
clauses (c ∷ cs) = clause c.patterns c.guard c.body (clauses cs)
