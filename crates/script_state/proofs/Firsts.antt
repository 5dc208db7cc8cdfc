-- The first that passes a test, of lists behind one another.
use Rattle.std.proofs.Common.{◌≡◌, ◌<◌, ◌+◌, ◌++◌, ◌∙◌, ℕ, Bool, true, false, cond, List, [], ◌∷◌, length, drop, get_or, slice_get, Option, None, Some, refl, sym, ap}
use Rattle.std.proofs.lemmas.List.{drop_more}
use Rattle.std.proofs.lemmas.Option.{get_or_from_slice_get, none-some}
use Rattle.std.specs.List.{find}

module _ {A : Type 0} (test : A → Bool) where
  -- none in the front, so it is the first behind it
  pub behind : (xs ys : List A) → find test xs ≡ None → find test (xs ++ ys) ≡ find test ys
  behind [] ys none = refl
  behind (x ∷ xs) ys none =
      elim (test x) as (λ b. cond b (Some x) (find test xs) ≡ None → cond b (Some x) (find test (xs ++ ys)) ≡ find test ys) [
        | true ↦ λ none. absurd (none-some x (sym none))
        | false ↦ λ none. behind xs ys none
      ] none

  -- one in the front is the first
  pub in_front : (xs ys : List A) (x : A) → find test xs ≡ Some x → find test (xs ++ ys) ≡ Some x
  in_front [] ys x is = absurd (none-some x is)
  in_front (y ∷ xs) ys x is =
      elim (test y) as (λ b. cond b (Some y) (find test xs) ≡ Some x → cond b (Some y) (find test (xs ++ ys)) ≡ Some x) [
        | true ↦ λ is. is
        | false ↦ λ is. in_front xs ys x is
      ] is

-- what is nothing, for it is never something
pub none_unless : {A : Type 0} (o : Option A) → ((x : A) → o ≡ Some x → ⊥) → o ≡ None
none_unless None never = refl
none_unless (Some x) never = absurd (never x refl)

-- an item, and those behind it

pub from_here : {A : Type 0} (items : List A) (i : ℕ) (x : A) → i < length items → x ≡ get_or items i x → drop i items ≡ x ∷ drop (i + 1) items
from_here items i x within is = drop_more items i x within ∙ ap (λ y. y ∷ drop (i + 1) items) (sym is)

pub from_there : {A : Type 0} (items : List A) (i : ℕ) (x : A) → i < length items → slice_get items i ≡ Some x → drop i items ≡ x ∷ drop (i + 1) items
from_there items i x within there = from_here items i x within (sym (get_or_from_slice_get items i x x there))
