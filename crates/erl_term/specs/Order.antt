-- The order of terms (Erlang Reference Manual, Term Comparisons), for the kinds that there are here:
-- integer < atom < process identifier < tuple < empty list < list.
use Rattle.std.specs.Prelude.{ℕ}
use Rattle.std.specs.declared.cmp.Ordering.{Ordering}
use Rattle.std.specs.declared.cmp.Ordering.TheVariants.{Less, Equal, Greater}
use Rattle.std.specs.Ordering.{ordering_then, nat_cmp, int_cmp}
use Rattle.std.specs.Cmp.Lexicographic.{slice_cmp}
use Rattle.erl_term.specs.Tree.{Tree, Trees, int, atom, pid, tuple, list, none, more, count}

-- the rank of a term's kind
abbrev pub kind : Tree → ℕ
kind (int n) = 0
kind (atom cs) = 1
kind (pid n) = 2
kind (tuple ts) = 3
kind (list ts) = 4

abbrev mutual
  -- By kind first. Integers and process identifiers by their numbers; atoms by their characters; tuples by
  -- their size, then element by element; lists element by element, a proper prefix first.
  pub tree_cmp : Tree → Tree → Ordering
  tree_cmp (int m) (int n) = int_cmp m n
  tree_cmp (atom cs) (atom ds) = slice_cmp nat_cmp cs ds
  tree_cmp (pid m) (pid n) = nat_cmp m n
  tree_cmp (tuple ts) (tuple us) = ordering_then (nat_cmp (count ts) (count us)) (trees_cmp ts us)
  tree_cmp (list ts) (list us) = trees_cmp ts us
  tree_cmp t u = nat_cmp (kind t) (kind u)

  -- rows, element by element, a proper prefix first
  pub trees_cmp : Trees → Trees → Ordering
  trees_cmp none none = Equal
  trees_cmp none (more u us) = Less
  trees_cmp (more t ts) none = Greater
  trees_cmp (more t ts) (more u us) = ordering_then (tree_cmp t u) (trees_cmp ts us)
