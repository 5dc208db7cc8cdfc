-- The order of terms is total, and tells all terms apart.
use Rattle.std.specs.Prelude.{◌≡◌, ℕ, ℤ, pos, ◌+◌, ◌≤◌, suc, zero, List, [], ◌∷◌, refl}
use Rattle.std.specs.declared.cmp.Ordering.{Ordering}
use Rattle.std.specs.declared.cmp.Ordering.TheVariants.{Less, Equal, Greater}
use Rattle.std.specs.Ordering.{ordering_then, ordering_reverse, nat_cmp, int_cmp, on, then_cmp}
use Rattle.std.specs.Cmp.{IsTotalOrder, nat_cmp_total, int_cmp_total, int_ranked}
use Rattle.std.specs.Cmp.Lexicographic.{slice_cmp}
use Rattle.std.specs.FinMap.{nat_cmp-IsAntisymmetric, slice_cmp-IsAntisymmetric}
use Rattle.std.proofs.Common.{sym, ap, ◌∙◌, arith}
use Rattle.std.proofs.lemmas.Cmp.{on_total, then_total, lists_total, nat_list_cmp_total}
use Rattle.erl_term.specs.Tree.{Tree, Trees, int, atom, pid, tuple, list, none, more, count, depth, greatest_depth}
use Rattle.erl_term.specs.Order.{kind, tree_cmp, trees_cmp}

-- The same order as a chain of orders by one part each, as far as a depth.

abbrev int_in : Tree → ℤ
int_in (int n) = n
int_in (atom cs) = pos 0
int_in (pid n) = pos 0
int_in (tuple ts) = pos 0
int_in (list ts) = pos 0

abbrev chars_in : Tree → List ℕ
chars_in (int n) = []
chars_in (atom cs) = cs
chars_in (pid n) = []
chars_in (tuple ts) = []
chars_in (list ts) = []

abbrev number_in : Tree → ℕ
number_in (int n) = 0
number_in (atom cs) = 0
number_in (pid n) = n
number_in (tuple ts) = count ts
number_in (list ts) = 0

abbrev row : Trees → List Tree
row none = []
row (more t ts) = t ∷ row ts

abbrev row_in : Tree → List Tree
row_in (int n) = []
row_in (atom cs) = []
row_in (pid n) = []
row_in (tuple ts) = row ts
row_in (list ts) = row ts

abbrev cmp_to : ℕ → Tree → Tree → Ordering
cmp_to zero = λ t u. Equal
cmp_to (suc n) =
    then_cmp (on kind nat_cmp) (then_cmp (on int_in int_cmp)
    (then_cmp (on chars_in (slice_cmp nat_cmp)) (then_cmp (on number_in nat_cmp) (on row_in (slice_cmp (cmp_to n))))))

cmp_to-total : (n : ℕ) → IsTotalOrder (cmp_to n)
cmp_to-total zero = record { antisymm = λ x y. refl; trans = λ x y z p q. p; congr = λ x y z p. refl }
cmp_to-total (suc n) =
    then_total (on_total kind nat_cmp_total)
    (then_total (on_total int_in int_cmp_total)
    (then_total (on_total chars_in nat_list_cmp_total)
    (then_total (on_total number_in nat_cmp_total) (on_total row_in (lists_total (cmp_to-total n))))))

then_equal : (o : Ordering) → ordering_then o Equal ≡ o
then_equal Less = refl
then_equal Equal = refl
then_equal Greater = refl

-- rows agree where their terms do
rows_agree : (n : ℕ) → ((t u : Tree) → depth t ≤ n → tree_cmp t u ≡ cmp_to (suc n) t u) → (ts us : Trees) →
    greatest_depth ts ≤ n → trees_cmp ts us ≡ slice_cmp (cmp_to (suc n)) (row ts) (row us)
rows_agree n agree none none shallow = refl
rows_agree n agree none (more u us) shallow = refl
rows_agree n agree (more t ts) none shallow = refl
rows_agree n agree (more t ts) (more u us) shallow =
    ap (λ o. ordering_then o (trees_cmp ts us)) (agree t u (omega arith)) ∙
    ap (λ o. ordering_then (cmp_to (suc n) t u) o) (rows_agree n agree ts us (omega arith))

-- the order is that chain, as far as it has to go
agree : (k : ℕ) (t u : Tree) → depth t ≤ k → tree_cmp t u ≡ cmp_to (suc k) t u
agree k (int m) (int n) shallow = sym (then_equal (int_cmp m n))
agree k (int m) (atom ds) shallow = refl
agree k (int m) (pid n) shallow = refl
agree k (int m) (tuple us) shallow = refl
agree k (int m) (list us) shallow = refl
agree k (atom cs) (int n) shallow = refl
agree k (atom cs) (atom ds) shallow = sym (then_equal (slice_cmp nat_cmp cs ds))
agree k (atom cs) (pid n) shallow = refl
agree k (atom cs) (tuple us) shallow = refl
agree k (atom cs) (list us) shallow = refl
agree k (pid m) (int n) shallow = refl
agree k (pid m) (atom ds) shallow = refl
agree k (pid m) (pid n) shallow = sym (then_equal (nat_cmp m n))
agree k (pid m) (tuple us) shallow = refl
agree k (pid m) (list us) shallow = refl
agree k (tuple ts) (int n) shallow = refl
agree k (tuple ts) (atom ds) shallow = refl
agree k (tuple ts) (pid n) shallow = refl
agree zero (tuple ts) (tuple us) shallow = absurd (omega arith)
agree (suc k) (tuple ts) (tuple us) shallow =
    ap (λ o. ordering_then (nat_cmp (count ts) (count us)) o) (rows_agree k (agree k) ts us (omega arith))
agree k (tuple ts) (list us) shallow = refl
agree k (list ts) (int n) shallow = refl
agree k (list ts) (atom ds) shallow = refl
agree k (list ts) (pid n) shallow = refl
agree k (list ts) (tuple us) shallow = refl
agree zero (list ts) (list us) shallow = absurd (omega arith)
agree (suc k) (list ts) (list us) shallow = rows_agree k (agree k) ts us (omega arith)

-- it is a total order
pub tree_cmp-total : IsTotalOrder tree_cmp
tree_cmp-total = record {
  antisymm =
      λ t u.
      let k = depth t + depth u in
      agree k t u (omega arith) ∙ (cmp_to-total (suc k)).antisymm t u ∙ ap ordering_reverse (sym (agree k u t (omega arith)));
  trans =
      λ t u v less lesser.
      let k = depth t + depth u in
      agree k t v (omega arith) ∙ (cmp_to-total (suc k)).trans t u v (sym (agree k t u (omega arith)) ∙ less)
      (sym (agree k u v (omega arith)) ∙ lesser);
  congr =
      λ t u v tied.
      let k = depth t + depth u in
      agree k t v (omega arith) ∙ (cmp_to-total (suc k)).congr t u v (sym (agree k t u (omega arith)) ∙ tied) ∙
      sym (agree k u v (omega arith));
}

-- Only equal terms are tied.

both_equal : (o p : Ordering) → ordering_then o p ≡ Equal → (o ≡ Equal) × (p ≡ Equal)
both_equal Less p e = absurd (let no : ⊥ = cc in no)
both_equal Equal p e = (refl, e)
both_equal Greater p e = absurd (let no : ⊥ = cc in no)

mutual
  pub tree_cmp-same : (t u : Tree) → tree_cmp t u ≡ Equal → t ≡ u
  tree_cmp-same (int m) (int n) e = ap int (int_ranked m n Equal (sym e))
  tree_cmp-same (int m) (atom ds) e = absurd (let no : ⊥ = cc in no)
  tree_cmp-same (int m) (pid n) e = absurd (let no : ⊥ = cc in no)
  tree_cmp-same (int m) (tuple us) e = absurd (let no : ⊥ = cc in no)
  tree_cmp-same (int m) (list us) e = absurd (let no : ⊥ = cc in no)
  tree_cmp-same (atom cs) (int n) e = absurd (let no : ⊥ = cc in no)
  tree_cmp-same (atom cs) (atom ds) e = ap atom (slice_cmp-IsAntisymmetric nat_cmp-IsAntisymmetric cs ds e)
  tree_cmp-same (atom cs) (pid n) e = absurd (let no : ⊥ = cc in no)
  tree_cmp-same (atom cs) (tuple us) e = absurd (let no : ⊥ = cc in no)
  tree_cmp-same (atom cs) (list us) e = absurd (let no : ⊥ = cc in no)
  tree_cmp-same (pid m) (int n) e = absurd (let no : ⊥ = cc in no)
  tree_cmp-same (pid m) (atom ds) e = absurd (let no : ⊥ = cc in no)
  tree_cmp-same (pid m) (pid n) e = ap pid (nat_cmp-IsAntisymmetric m n e)
  tree_cmp-same (pid m) (tuple us) e = absurd (let no : ⊥ = cc in no)
  tree_cmp-same (pid m) (list us) e = absurd (let no : ⊥ = cc in no)
  tree_cmp-same (tuple ts) (int n) e = absurd (let no : ⊥ = cc in no)
  tree_cmp-same (tuple ts) (atom ds) e = absurd (let no : ⊥ = cc in no)
  tree_cmp-same (tuple ts) (pid n) e = absurd (let no : ⊥ = cc in no)
  tree_cmp-same (tuple ts) (tuple us) e = ap tuple
      (trees_cmp-same ts us (both_equal (nat_cmp (count ts) (count us)) (trees_cmp ts us) e).1)
  tree_cmp-same (tuple ts) (list us) e = absurd (let no : ⊥ = cc in no)
  tree_cmp-same (list ts) (int n) e = absurd (let no : ⊥ = cc in no)
  tree_cmp-same (list ts) (atom ds) e = absurd (let no : ⊥ = cc in no)
  tree_cmp-same (list ts) (pid n) e = absurd (let no : ⊥ = cc in no)
  tree_cmp-same (list ts) (tuple us) e = absurd (let no : ⊥ = cc in no)
  tree_cmp-same (list ts) (list us) e = ap list (trees_cmp-same ts us e)

  pub trees_cmp-same : (ts us : Trees) → trees_cmp ts us ≡ Equal → ts ≡ us
  trees_cmp-same none none e = refl
  trees_cmp-same none (more u us) e = absurd (let no : ⊥ = cc in no)
  trees_cmp-same (more t ts) none e = absurd (let no : ⊥ = cc in no)
  trees_cmp-same (more t ts) (more u us) e =
      let parts = both_equal (tree_cmp t u) (trees_cmp ts us) e in
      ap (λ v. more v ts) (tree_cmp-same t u parts.0) ∙ ap (λ vs. more u vs) (trees_cmp-same ts us parts.1)
