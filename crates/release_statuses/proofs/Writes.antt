-- Changes at one index after another.
use Rattle.std.proofs.Common.{◌≡◌, ℕ, zero, suc, ◌<◌, List, [], ◌∷◌, ◌++◌, length, map, take, drop, slice_get, get_or, Some}
use Rattle.std.proofs.Common.{refl, sym, ap, subst, ◌∙◌, arith}
use Rattle.std.proofs.lemmas.Option.{same_Some, slice_get_read}
use Rattle.values.specs.Edits.{changed_at}
use Rattle.release_statuses.specs.declared.listed.Listed.{Listed}
use Rattle.release_statuses.specs.declared.status.Status.{Status}
use Rattle.release_statuses.specs.Statuses.{with_status}
use Rattle.release_statuses.specs.Undo.{with_statuses}

module _ {A : Type 0} where
  -- what a list lent has at an index
  pub lent_at : (lent xs : List A) (i : ℕ) (x : A) → lent ≡ xs → i < length xs → x ≡ get_or lent i x → slice_get xs i ≡ Some x
  lent_at lent xs i x is within at =
      slice_get_read xs (length xs) i x refl within (at ∙ ap (λ l. get_or l i x) is)

  -- two changes of an item to the same
  pub changed_alike : (f g : A → A) (xs : List A) (i : ℕ) (x : A) → slice_get xs i ≡ Some x → f x ≡ g x →
      changed_at f xs i ≡ changed_at g xs i
  changed_alike f g [] i x at same = refl
  changed_alike f g (y ∷ ys) zero x at same = ap (λ z. z ∷ ys) (subst (λ z. f z ≡ g z) (sym (same_Some y x at)) same)
  changed_alike f g (y ∷ ys) (suc i) x at same = ap (λ zs. y ∷ zs) (changed_alike f g ys i x at same)

  -- the items at the indices before this one are changed, and so is the one at this index
  pub changed-more : (f : A → A) (xs : List A) (i : ℕ) → i < length xs →
      changed_at f (map f (take i xs) ++ drop i xs) i ≡ map f (take (suc i) xs) ++ drop (suc i) xs
  changed-more f [] i within = absurd (omega (arith, within))
  changed-more f (x ∷ xs) zero within = refl
  changed-more f (x ∷ xs) (suc i) within = ap (λ ys. f x ∷ ys) (changed-more f xs i (omega (arith, within)))

-- the releases at the indices before this one have their statuses, and so has the one at this index
pub with_statuses-more : (ss : List Status) (xs : List Listed) (i : ℕ) (d : Status) → i < length ss → i < length xs →
    changed_at (with_status (get_or ss i d)) (with_statuses (take i ss) xs) i ≡ with_statuses (take (suc i) ss) xs
with_statuses-more [] xs i d known within = absurd (omega (arith, known))
with_statuses-more (s ∷ ss) [] i d known within = absurd (omega (arith, within))
with_statuses-more (s ∷ ss) (x ∷ xs) zero d known within = refl
with_statuses-more (s ∷ ss) (x ∷ xs) (suc i) d known within =
    ap (λ ys. with_status s x ∷ ys) (with_statuses-more ss xs i d (omega (arith, known)) (omega (arith, within)))

pub length-with_statuses : (ss : List Status) (xs : List Listed) → length (with_statuses ss xs) ≡ length xs
length-with_statuses [] xs = refl
length-with_statuses (s ∷ ss) [] = refl
length-with_statuses (s ∷ ss) (x ∷ xs) = ap suc (length-with_statuses ss xs)
