-- A write at an index is a change there.
use Rattle.std.proofs.Common.{◌≡◌, ℕ, zero, suc, ◌<◌, ◌≤◌, ◌+◌, List, [], ◌∷◌, ◌++◌, length, slice_set, get_or, drop, append_assoc, refl, sym, ap, ◌∙◌, arith, subst}
use Rattle.std.proofs.lemmas.List.{drop_more, set_at}
use Rattle.values.specs.Edits.{changed_at}

module _ {A : Type 0} where
  pub changed_from_write : (f : A → A) (xs : List A) (index : ℕ) (old w : A) → index < length xs → old ≡ get_or xs index old → w ≡ f old → slice_set xs index w ≡ changed_at f xs index
  changed_from_write f [] index old w within is done = refl
  changed_from_write f (x ∷ xs) zero old w within is done = ap (λ y. y ∷ xs) (done ∙ ap f is)
  changed_from_write f (x ∷ xs) (suc index) old w within is done =
      ap (λ ys. x ∷ ys) (changed_from_write f xs index old w (omega (arith, within)) is done)

  pub changed_past : (f : A → A) (xs : List A) (index : ℕ) → length xs ≤ index → changed_at f xs index ≡ xs
  changed_past f [] index past = refl
  changed_past f (x ∷ xs) zero past = absurd (omega (arith, past))
  changed_past f (x ∷ xs) (suc index) past = ap (λ ys. x ∷ ys) (changed_past f xs index (omega (arith, past)))

  -- two changes that do the same to what stands there
  pub changed_there : (f g : A → A) (xs : List A) (index : ℕ) (x : A) → x ≡ get_or xs index x → f x ≡ g x → changed_at f xs index ≡ changed_at g xs index
  changed_there f g [] index x is same = refl
  changed_there f g (y ∷ xs) zero x is same = ap (λ z. z ∷ xs) (subst (λ z. f z ≡ g z) is same)
  changed_there f g (y ∷ xs) (suc index) x is same = ap (λ ys. y ∷ ys) (changed_there f g xs index x is same)

  -- a write behind a front
  pub set_front : (p xs : List A) (n : ℕ) (v : A) → length p ≡ n → n < length xs → slice_set (p ++ drop n xs) n v ≡ (p ++ v ∷ []) ++ drop (n + 1) xs
  set_front p xs n v long below =
      ap (λ t. slice_set (p ++ t) n v) (drop_more xs n v below) ∙ set_at p (get_or xs n v) (drop (n + 1) xs) v n long ∙ sym (append_assoc p (v ∷ []) (drop (n + 1) xs))
