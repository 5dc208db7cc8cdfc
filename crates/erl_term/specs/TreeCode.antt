-- Trees as ghost values: what a model whose value is trees needs.
use Rattle.std.specs.Prelude.{◌≡◌, ℕ, pos, negsuc, List, [], ◌∷◌, cond, eqb, refl}
use Rattle.std.proofs.Common.{ap, sym, ◌∙◌}
use base.Stored.{Gv, gnil, gnum, gcons, num, Coded}
use Rattle.erl_term.specs.Tree.{Tree, Trees, int, atom, pid, tuple, list, none, more}

abbrev pub chars_code : List ℕ → Gv
chars_code [] = gnil
chars_code (c ∷ cs) = gcons (gnum c) (chars_code cs)

abbrev pub chars_back : Gv → List ℕ
chars_back gnil = []
chars_back (gnum n) = []
chars_back (gcons c cs) = num c ∷ chars_back cs

abbrev mutual
  pub tree_code : Tree → Gv
  tree_code (int (pos n)) = gcons (gnum 0) (gnum n)
  tree_code (int (negsuc n)) = gcons (gnum 1) (gnum n)
  tree_code (atom cs) = gcons (gnum 2) (chars_code cs)
  tree_code (pid n) = gcons (gnum 3) (gnum n)
  tree_code (tuple ts) = gcons (gnum 4) (trees_code ts)
  tree_code (list ts) = gcons (gnum 5) (trees_code ts)

  pub trees_code : Trees → Gv
  trees_code none = gnil
  trees_code (more t ts) = gcons (tree_code t) (trees_code ts)

-- the tree of a kind's number, what is behind it, and the row that this would be
abbrev pub tree_of : ℕ → Gv → Trees → Tree
tree_of kind g ts =
    cond (eqb kind 0) (int (pos (num g))) (cond (eqb kind 1) (int (negsuc (num g)))
    (cond (eqb kind 2) (atom (chars_back g)) (cond (eqb kind 3) (pid (num g)) (cond (eqb kind 4) (tuple ts) (list ts)))))

abbrev mutual
  pub tree_back : Gv → Tree
  tree_back gnil = list none
  tree_back (gnum n) = list none
  tree_back (gcons kind g) = tree_of (num kind) g (trees_back g)

  pub trees_back : Gv → Trees
  trees_back gnil = none
  trees_back (gnum n) = none
  trees_back (gcons t ts) = more (tree_back t) (trees_back ts)

pub chars_back-code : (cs : List ℕ) → chars_back (chars_code cs) ≡ cs
chars_back-code [] = refl
chars_back-code (c ∷ cs) = ap (λ ds. c ∷ ds) (chars_back-code cs)

mutual
  pub tree_back-code : (t : Tree) → tree_back (tree_code t) ≡ t
  tree_back-code (int (pos n)) = refl
  tree_back-code (int (negsuc n)) = refl
  tree_back-code (atom cs) = ap atom (chars_back-code cs)
  tree_back-code (pid n) = refl
  tree_back-code (tuple ts) = ap tuple (trees_back-code ts)
  tree_back-code (list ts) = ap list (trees_back-code ts)

  pub trees_back-code : (ts : Trees) → trees_back (trees_code ts) ≡ ts
  trees_back-code none = refl
  trees_back-code (more t ts) = ap (λ u. more u (trees_back (trees_code ts))) (tree_back-code t) ∙
      ap (λ us. more t us) (trees_back-code ts)

abbrev pub trees_coded : Coded Trees
trees_coded = record { code = trees_code; inj = λ x y same. sym (trees_back-code x) ∙ ap trees_back same ∙ trees_back-code y }
