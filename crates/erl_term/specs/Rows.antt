-- Rows of terms.
use Rattle.std.specs.Prelude.{ℕ, pos, List, [], ◌∷◌}
use Rattle.erl_term.specs.Tree.{Trees, int, none, more}

-- a row, and another behind it
abbrev pub append_trees : Trees → Trees → Trees
append_trees none us = us
append_trees (more t ts) us = more t (append_trees ts us)

-- characters as integers
abbrev pub integers : List ℕ → Trees
integers [] = none
integers (c ∷ cs) = more (int (pos c)) (integers cs)
