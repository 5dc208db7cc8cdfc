-- Lemmas on rows of terms: one term more.
use Rattle.std.proofs.Common.{◌≡◌, ℕ, ◌+◌, ◌<◌, ◌≤◌, max, Bool, IsTrue, cond, eqb, ltb, List, [], ◌∷◌, ◌++◌, length, get_or, take, drop, ◌⊎◌, inl, inr, nat_cmp, zero, suc, sym, ap, ◌∙◌, subst, refl, arith}
use Rattle.std.specs.declared.cmp.Ordering.{Ordering}
use Rattle.std.specs.declared.cmp.Ordering.TheVariants.{Less, Equal, Greater}
use Rattle.std.specs.Ordering.{ordering_then}
use Rattle.std.proofs.lemmas.Bool.{cond-true, cond-false, eq-eqb, ne_eqb, eqb-true, lt-ltb, le-ltb, cases_order}
use Rattle.std.proofs.lemmas.List.{take_more, drop_all, length-drop}
use Rattle.erl_term.specs.declared.term.Term.{Term}
use Rattle.erl_term.specs.Tree.{Trees, tuple, none, count, depth, greatest_depth, size, total_size}
use Rattle.erl_term.specs.Order.{tree_cmp, trees_cmp}
use Rattle.erl_term.specs.Term.{tree, trees}

pub greatest_depth-push : (ts : List Term) (t : Term) → greatest_depth (trees (ts ++ t ∷ [])) ≡ max (greatest_depth (trees ts)) (depth (tree t))
greatest_depth-push [] t = omega arith
greatest_depth-push (u ∷ us) t = omega (arith, greatest_depth-push us t)

pub total_size-push : (ts : List Term) (t : Term) → total_size (trees (ts ++ t ∷ [])) ≡ total_size (trees ts) + size (tree t)
total_size-push [] t = omega arith
total_size-push (u ∷ us) t = omega (arith, total_size-push us t)

-- the term that a loop is at, behind those that it passed
pub take_here : (items : List Term) (i : ℕ) (t : Term) → i < length items → t ≡ get_or items i t → take (i + 1) items ≡ take i items ++ t ∷ []
take_here items i t within is = take_more items i t within ∙ ap (λ u. take i items ++ u ∷ []) (sym is)

-- a term is no deeper than the row that it stands in
depth_at : (items : List Term) (i : ℕ) (t : Term) → i < length items → depth (tree (get_or items i t)) ≤ greatest_depth (trees items)
depth_at [] i t within = absurd (omega arith)
depth_at (u ∷ us) zero t within = omega arith
depth_at (u ∷ us) (suc i) t within = omega (arith, depth_at us i t (omega arith))

pub depth_in : (items : List Term) (i : ℕ) (t : Term) → i < length items → t ≡ get_or items i t → depth (tree t) ≤ greatest_depth (trees items)
depth_in items i t within is =
    subst (λ u. depth (tree u) ≤ greatest_depth (trees items)) (sym is) (depth_at items i t within)

-- a row's length
pub count-trees : (ts : List Term) → count (trees ts) ≡ length ts
count-trees [] = refl
count-trees (t ∷ ts) = omega (arith, count-trees ts)

-- a row is none exactly where it has no terms
pub none-trees : (ts : List Term) (n : ℕ) (b : Bool) → b ≡ eqb n 0 → n ≡ length ts → (IsTrue b → trees ts ≡ none) × (trees ts ≡ none → IsTrue b)
none-trees [] n b is len = (λ yes. refl, λ e. is ∙ eq-eqb n 0 len)
none-trees (t ∷ ts) n b is len =
    (λ yes. absurd (omega (arith, len, eqb-true n 0 (sym is ∙ yes))), λ e. absurd (let no : ⊥ = cc in no))

-- Numbers, compared

nat_cmp-lt : (m n : ℕ) → m < n → nat_cmp m n ≡ Less
nat_cmp-lt m n below = cond-true (ltb m n) Less (cond (eqb m n) Equal Greater) (lt-ltb m n below)

nat_cmp-gt : (m n : ℕ) → n < m → nat_cmp m n ≡ Greater
nat_cmp-gt m n above =
    cond-false (ltb m n) Less (cond (eqb m n) Equal Greater) (le-ltb m n (omega arith)) ∙ cond-false (eqb m n) Equal Greater (ne_eqb m n (λ e. absurd (omega (arith, e))))

nat_cmp-eq : (m n : ℕ) → m ≡ n → nat_cmp m n ≡ Equal
nat_cmp-eq m n same =
    cond-false (ltb m n) Less (cond (eqb m n) Equal Greater) (le-ltb m n (omega (arith, same))) ∙ cond-true (eqb m n) Equal Greater (eq-eqb m n same)

-- Rows, compared

then_unequal : (o p : Ordering) → (o ≡ Equal → ⊥) → o ≡ ordering_then o p
then_unequal Less p other = refl
then_unequal Equal p other = absurd (other refl)
then_unequal Greater p other = refl

-- rows of unequal sizes, as tuples
pub tuples-unequal : (ts us : Trees) (o : Ordering) → o ≡ nat_cmp (count ts) (count us) → (o ≡ Equal → ⊥) → o ≡ tree_cmp (tuple ts) (tuple us)
tuples-unequal ts us o is unequal =
    then_unequal o (trees_cmp ts us) unequal ∙ ap (λ p. ordering_then p (trees_cmp ts us)) is

-- and of equal ones
pub tuples-equal : (ts us : Trees) (o : Ordering) → Equal ≡ nat_cmp (count ts) (count us) → o ≡ trees_cmp ts us → o ≡ tree_cmp (tuple ts) (tuple us)
tuples-equal ts us o is compared = compared ∙ ap (λ p. ordering_then p (trees_cmp ts us)) is

none_first : (us : List Term) → 0 < length us → trees_cmp none (trees us) ≡ Less
none_first [] some = absurd (omega arith)
none_first (u ∷ us) some = refl

none_second : (ts : List Term) → 0 < length ts → trees_cmp (trees ts) none ≡ Greater
none_second [] some = absurd (omega arith)
none_second (t ∷ ts) some = refl

-- where one row, or both, are passed
pub trees_cmp-end : (ts us : List Term) (i : ℕ) → i ≤ length ts → i ≤ length us → (length ts ≤ i) ⊎ (length us ≤ i) → nat_cmp (length ts) (length us) ≡ trees_cmp (trees (drop i ts)) (trees (drop i us))
trees_cmp-end ts us i one other ends =
    elim (cases_order (length ts) (length us)) [
      | inl same ↦
          let here : length ts ≤ i = elim ends [ inl h ↦ h | inr h ↦ omega (arith, h, same) ] in
          nat_cmp-eq (length ts) (length us) same ∙ sym (ap (λ vs. trees_cmp (trees vs) (trees (drop i us))) (drop_all i ts here) ∙ ap (λ vs. trees_cmp none (trees vs)) (drop_all i us (omega (arith, here, same))))
      | inr apart ↦
          elim apart [
            | inl less ↦
                let here : length ts ≤ i = elim ends [ inl h ↦ h | inr h ↦ omega (arith, h, less) ] in
                nat_cmp-lt (length ts) (length us) less ∙ sym (ap (λ vs. trees_cmp (trees vs) (trees (drop i us))) (drop_all i ts here) ∙ none_first (drop i us) (simp length-drop (omega arith)))
            | inr more_left ↦
                let here : length us ≤ i = elim ends [ inl h ↦ omega (arith, h, more_left) | inr h ↦ h ] in
                nat_cmp-gt (length ts) (length us) more_left ∙ sym (ap (λ vs. trees_cmp (trees (drop i ts)) (trees vs)) (drop_all i us here) ∙ none_second (drop i ts) (simp length-drop (omega arith)))
          ]
    ]
