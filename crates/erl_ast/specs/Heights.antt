-- How high rows of trees stand over what they hold: what a recursion down a tree falls by.
use Rattle.std.specs.Prelude.{ℕ, ◌+◌, max}
use Rattle.erl_ast.specs.Tree.{Tree, Trees, Guards, Clauses}
use Rattle.erl_ast.specs.Tree.{leaf, node, case, none, more, no_guards, guard, no_clauses, clause}

abbrev mutual
  pub tree_height : Tree → ℕ
  tree_height (leaf l) = 0
  tree_height (node shape ts) = 1 + trees_height ts
  tree_height (case subject cs) = 1 + max (trees_height subject) (clauses_height cs)

  pub trees_height : Trees → ℕ
  trees_height none = 0
  trees_height (more t ts) = max (tree_height t) (trees_height ts)

  pub guards_height : Guards → ℕ
  guards_height no_guards = 0
  guards_height (guard tests gs) = max (1 + trees_height tests) (guards_height gs)

  pub clauses_height : Clauses → ℕ
  clauses_height no_clauses = 0
  clauses_height (clause ps gs body cs) =
      max (max (1 + trees_height ps) (1 + guards_height gs)) (max (1 + trees_height body) (clauses_height cs))
