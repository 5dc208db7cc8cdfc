-- Syntax trees as contracts see them: expressions, patterns and tests of guards as they are written (Erlang Reference
-- Manual, Expressions).
use Rattle.std.specs.Prelude.{ℕ, ◌+◌, max}
use Rattle.erl_ast.specs.declared.leaf.Leaf.{Leaf}
use Rattle.erl_ast.specs.declared.shape.Shape.{Shape}

mutual
  pub data Tree : Type 0 where
    -- a literal that no brackets make, or a variable
    leaf : Leaf → Tree
    -- what is put together from parts
    node : Shape → Trees → Tree
    -- `case E of Cs end`: the row is `E` alone
    case : Trees → Clauses → Tree

  -- trees in a row: the parts of a node, patterns, the tests of a guard, or a body
  pub data Trees : Type 0 where
    none : Trees
    more : Tree → Trees → Trees

  -- a guard sequence `when G1; ..; Gn`, each a row of tests; a clause without `when` has none
  pub data Guards : Type 0 where
    no_guards : Guards
    guard : Trees → Guards → Guards

  -- clauses in a row: each has its patterns, its guard sequence and its body
  pub data Clauses : Type 0 where
    no_clauses : Clauses
    clause : Trees → Guards → Trees → Clauses → Clauses

-- how many trees stand in the row
abbrev pub tree_count : Trees → ℕ
tree_count none = 0
tree_count (more t ts) = 1 + tree_count ts

abbrev mutual
  -- How deep a tree is nested: 0 for a leaf, else 1 and the greatest depth of its parts. Each pair of brackets, each call,
  -- `case`, `begin` and each operator is a level; clauses, guards and rows are none of their own.
  pub tree_depth : Tree → ℕ
  tree_depth (leaf l) = 0
  tree_depth (node shape ts) = 1 + trees_depth ts
  tree_depth (case subject cs) = 1 + max (trees_depth subject) (clauses_depth cs)

  pub trees_depth : Trees → ℕ
  trees_depth none = 0
  trees_depth (more t ts) = max (tree_depth t) (trees_depth ts)

  pub guards_depth : Guards → ℕ
  guards_depth no_guards = 0
  guards_depth (guard tests gs) = max (trees_depth tests) (guards_depth gs)

  pub clauses_depth : Clauses → ℕ
  clauses_depth no_clauses = 0
  clauses_depth (clause ps gs body cs) =
      max (max (trees_depth ps) (guards_depth gs)) (max (trees_depth body) (clauses_depth cs))
