-- Whether an item of a list passes a test, where the list is changed.
use Rattle.std.proofs.Common.{◌≡◌, ℕ, zero, suc, ◌+◌, ◌<◌, Bool, true, false, not, ◌||◌, cond, List, [], ◌∷◌, length}
use Rattle.std.proofs.Common.{remove, slice_get, None, Some, refl, sym, ap, subst, ◌∙◌, arith}
use Rattle.std.specs.List.{list_any, position, position_or_len}
use Rattle.std.proofs.lemmas.Bool.{cond-true, lt-ltb, ltb-true, or_left, or_right}
use Rattle.std.specs.Prelude.{nat_lt}
use Rattle.std.proofs.lemmas.Option.{cond_some, none-some, same_Some}
use Rattle.values.specs.Edits.{changed_at}

-- of two tests, the second of which passes still
or_more : (b s t : Bool) → (s ≡ true → t ≡ true) → (b || s) ≡ true → (b || t) ≡ true
or_more true s t more some = refl
or_more false s t more some = more some

found_more : (b s : Bool) (n m : ℕ) → (s ≡ true → n < m) → (b || s) ≡ true → cond (not b) (1 + n) 0 < suc m
found_more true s n m below some = omega arith
found_more false s n m below some = let first = below some in omega arith

module _ {A : Type 0} where
  -- one that doesn't pass, taken out
  pub list_any-remove : (p : A → Bool) (xs : List A) (i : ℕ) (x : A) → slice_get xs i ≡ Some x → p x ≡ false →
      list_any p xs ≡ true → list_any p (remove xs i) ≡ true
  list_any-remove p [] i x at fails some = absurd (none-some x at)
  list_any-remove p (y ∷ ys) zero x at fails some =
      subst (λ b. (b || list_any p ys) ≡ true) (ap p (same_Some y x at) ∙ fails) some
  list_any-remove p (y ∷ ys) (suc i) x at fails some =
      or_more (p y) (list_any p ys) (list_any p (remove ys i)) (λ more. list_any-remove p ys i x at fails more) some

  -- one that doesn't pass, changed
  pub list_any-changed_at : (p : A → Bool) (f : A → A) (xs : List A) (i : ℕ) (x : A) → slice_get xs i ≡ Some x → p x ≡ false →
      list_any p xs ≡ true → list_any p (changed_at f xs i) ≡ true
  list_any-changed_at p f [] i x at fails some = absurd (none-some x at)
  list_any-changed_at p f (y ∷ ys) zero x at fails some =
      or_right (p (f y)) (list_any p ys) (subst (λ b. (b || list_any p ys) ≡ true) (ap p (same_Some y x at) ∙ fails) some)
  list_any-changed_at p f (y ∷ ys) (suc i) x at fails some =
      or_more (p y) (list_any p ys) (list_any p (changed_at f ys i)) (λ more. list_any-changed_at p f ys i x at fails more) some

  -- one that passes once it is changed
  pub list_any-changed_to : (p : A → Bool) (f : A → A) (xs : List A) (i : ℕ) (x : A) → slice_get xs i ≡ Some x →
      p (f x) ≡ true → list_any p (changed_at f xs i) ≡ true
  list_any-changed_to p f [] i x at passes = absurd (none-some x at)
  list_any-changed_to p f (y ∷ ys) zero x at passes =
      or_left (p (f y)) (list_any p ys) (ap (λ z. p (f z)) (same_Some y x at) ∙ passes)
  list_any-changed_to p f (y ∷ ys) (suc i) x at passes =
      or_right (p y) (list_any p (changed_at f ys i)) (list_any-changed_to p f ys i x at passes)

  -- the index of the first that passes

  pub first-within : (p : A → Bool) (xs : List A) (i : ℕ) → position p xs ≡ Some i → i < length xs
  first-within p xs i at =
      let n = position_or_len p xs in
      let first = cond_some (nat_lt n (length xs)) n i at in
      subst (λ m. m < length xs) first.1 (ltb-true n (length xs) first.0)

  first_below : (p : A → Bool) (xs : List A) → list_any p xs ≡ true → position_or_len p xs < length xs
  first_below p [] some = absurd cc
  first_below p (x ∷ xs) some =
      found_more (p x) (list_any p xs) (position_or_len p xs) (length xs) (λ more. first_below p xs more) some

  pub first-there : (p : A → Bool) (xs : List A) → position p xs ≡ None → list_any p xs ≡ true → ⊥
  first-there p xs none some =
      let n = position_or_len p xs in
      let is = cond-true (nat_lt n (length xs)) (Some n) None (lt-ltb n (length xs) (first_below p xs some)) in
      none-some n (sym none ∙ is)
