-- What is asked of a node, item by item.
use Rattle.std.proofs.Common.{◌≡◌, ◌∙◌, ◌<◌, ◌||◌, ℕ, zero, suc, ◌+◌, Bool, true, false, List, [], ◌∷◌, ◌++◌, None, Some, refl, sym, ap}
use Rattle.std.proofs.Common.{length, take, get_or, slice_get}
use Rattle.std.proofs.lemmas.Grind.{flat_map-append}
use Rattle.std.proofs.lemmas.List.{append-nil, take_more}
use Rattle.std.proofs.lemmas.List.Folds.{list_any-append}
use Rattle.std.proofs.lemmas.Option.{slice_get_within, unwrap_or-slice_get}
use Rattle.std.specs.List.{flat_map, list_any}
use Rattle.std.specs.Option.{unwrap_or}

module _ {X : Type 0} where
  -- the items up to one, and that one
  one_more : (xs : List X) (n : ℕ) (x : X) → n < length xs → x ≡ get_or xs n x → take (n + 1) xs ≡ take n xs ++ x ∷ []
  one_more xs n x within item = take_more xs n x within ∙ ap (λ y. take n xs ++ y ∷ []) (sym item)

  one_more_at : (xs : List X) (n : ℕ) (x : X) → slice_get xs n ≡ Some x → take (n + 1) xs ≡ take n xs ++ x ∷ []
  one_more_at xs n x is = one_more xs n x (slice_get_within xs n x is)
      (ap (λ o. unwrap_or o x) (sym is) ∙ unwrap_or-slice_get xs n x)

  pub pieces_next : {Y : Type 0} (f : X → List Y) (xs : List X) (n : ℕ) (x : X) → slice_get xs n ≡ Some x →
      flat_map f (take (n + 1) xs) ≡ flat_map f (take n xs) ++ f x
  pieces_next f xs n x is = ap (flat_map f) (one_more_at xs n x is) ∙ flat_map-append f (take n xs) (x ∷ [])
      ∙ ap (λ ys. flat_map f (take n xs) ++ ys) (append-nil (f x))

  pub none_next : (p : X → Bool) (xs : List X) (n : ℕ) (x : X) → slice_get xs n ≡ Some x → list_any p (take n xs) ≡ false →
      p x ≡ false → list_any p (take (n + 1) xs) ≡ false
  none_next p xs n x is none fails = ap (list_any p) (one_more_at xs n x is) ∙ list_any-append p (take n xs) (x ∷ [])
      ∙ ap (λ b. b || list_any p (x ∷ [])) none ∙ ap (λ b. b || false) fails

  pub some_passes : (p : X → Bool) (xs : List X) (n : ℕ) (x : X) → slice_get xs n ≡ Some x → p x ≡ true → list_any p xs ≡ true
  some_passes p [] n x is passes = let clash : None ≡ Some x = is in cc
  some_passes p (y ∷ ys) zero x is passes =
      let same : y ≡ x = (let both : Some y ≡ Some x = is in cc) in
      ap (λ z. p z || list_any p ys) same ∙ ap (λ b. b || list_any p ys) passes
  some_passes p (y ∷ ys) (suc n) x is passes = by (p y) (some_passes p ys n x is passes)
    where
      by : (b : Bool) {rest : Bool} → rest ≡ true → (b || rest) ≡ true
      by true is = refl
      by false is = is
