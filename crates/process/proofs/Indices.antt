-- The first item that passes a test, at the end of a walk and behind one more.
use Rattle.std.proofs.Common.{◌≡◌, ℕ, ◌+◌, ◌<◌, Bool, true, false, List, [], ◌∷◌, ◌++◌, length, get_or, None, Some, refl, sym, ap, ◌∙◌, arith, below_more}
use Rattle.std.proofs.lemmas.Grind.{common_steps}
use Rattle.std.proofs.lemmas.List.{get_or_default}
use Rattle.std.proofs.lemmas.List.Folds.{position_or_len_push}
use Rattle.std.proofs.lemmas.List.Sums.{position_or_len_is, prefix_len-le-length}
use Rattle.std.proofs.Math.Bool.{not}
use Rattle.std.specs.List.{position, position_or_len}

module _ {A : Type 0} (test : A → Bool) where
  -- of the items before an index none passes
  abbrev pub NonePasses : ℕ → List A → Type 0
  NonePasses n xs = (k : ℕ) (d : A) → k < n → test (get_or xs k d) ≡ false

  -- an index that passes, where none passes before it
  pub position_at : (xs : List A) (n : ℕ) (x : A) → n < length xs → x ≡ get_or xs n x → NonePasses n xs → test x ≡ true → position test xs ≡ Some n
  position_at xs n x within at none is =
      let first : position_or_len test xs ≡ n = position_or_len_is test xs n x (omega (arith, within)) (λ k. none k x) (λ _. ap test (sym at) ∙ is) in
      grind (arith, common_steps, first)

  -- none passes
  pub position_nowhere : (xs : List A) → NonePasses (length xs) xs → position test xs ≡ None
  position_nowhere [] none = refl
  position_nowhere (x ∷ xs) none =
      let past : position_or_len test (x ∷ xs) ≡ length (x ∷ xs) = position_or_len_is test (x ∷ xs) (length (x ∷ xs)) x (omega arith) (λ k. none k x) (λ h. absurd (omega (arith, h))) in
      grind (arith, common_steps, past)

  -- one more that doesn't pass
  pub NonePasses-more : (xs : List A) (n : ℕ) (x : A) → n < length xs → x ≡ get_or xs n x → NonePasses n xs → test x ≡ false → NonePasses (n + 1) xs
  NonePasses-more xs n x within at none is k d below =
      below_more _ _ (λ j. none j d) (ap test (get_or_default xs n d x within ∙ sym at) ∙ is) k below

  -- where none passed, one more that passes is the first
  pub position_last : (xs : List A) (x : A) → position test xs ≡ None → test x ≡ true → position test (xs ++ x ∷ []) ≡ Some (length xs)
  position_last xs x none is = grind (arith, common_steps, position_or_len_push test xs x, prefix_len-le-length (λ y. not (test y)) xs, none, is)
