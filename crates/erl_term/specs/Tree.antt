-- Erlang terms (Erlang Reference Manual, Data Types), as contracts see them.
use Rattle.std.specs.Prelude.{ℕ, ℤ, ◌+◌, List}
use Rattle.std.specs.Prelude.{max}

mutual
  -- An integer, an atom as its characters' code points, a process identifier as its number, a tuple
  -- and a list as its elements.
  pub data Tree : Type 0 where
    int : ℤ → Tree
    atom : List ℕ → Tree
    pid : ℕ → Tree
    tuple : Trees → Tree
    list : Trees → Tree

  -- terms in a row
  pub data Trees : Type 0 where
    none : Trees
    more : Tree → Trees → Trees

-- how many terms stand in the row
abbrev pub count : Trees → ℕ
count none = 0
count (more t ts) = 1 + count ts

abbrev mutual
  -- Depth: 0 for an integer, an atom or a process identifier, else 1 and the greatest of the elements'
  -- (0 where there are none).
  pub depth : Tree → ℕ
  depth (int n) = 0
  depth (atom cs) = 0
  depth (pid n) = 0
  depth (tuple ts) = 1 + greatest_depth ts
  depth (list ts) = 1 + greatest_depth ts

  pub greatest_depth : Trees → ℕ
  greatest_depth none = 0
  greatest_depth (more t ts) = max (depth t) (greatest_depth ts)

abbrev mutual
  -- Size: 1 and the sum of the elements' sizes.
  pub size : Tree → ℕ
  size (int n) = 1
  size (atom cs) = 1
  size (pid n) = 1
  size (tuple ts) = 1 + total_size ts
  size (list ts) = 1 + total_size ts

  pub total_size : Trees → ℕ
  total_size none = 0
  total_size (more t ts) = size t + total_size ts
