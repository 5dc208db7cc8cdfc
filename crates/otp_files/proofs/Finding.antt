-- Searches from the front: what has passed does not count.
use Rattle.std.proofs.Common.{◌≡◌, ℕ, ◌+◌, ◌<◌, Bool, true, false, List, ◌∷◌, length, get_or, drop, Option, Some, sym, ap, ◌∙◌, refl}
use Rattle.std.specs.List.{find}
use Rattle.std.specs.Str.{bytes_eq}
use Rattle.std.proofs.lemmas.List.{drop_more}
use Rattle.std.proofs.lemmas.Slice.Eq.{bytes_eq-Decides}

here : {A : Type 0} (p : A → Bool) (items : List A) (i : ℕ) (x : A) → i < length items → x ≡ get_or items i x → find p (drop i items) ≡ find p (x ∷ drop (i + 1) items)
here p items i x within is =
    ap (λ xs. find p xs) (drop_more items i x within ∙ ap (λ u. u ∷ drop (i + 1) items) (sym is))

first_of_two : {A : Type 0} (p : A → Bool) (x : A) (xs : List A) → p x ≡ true → find p (x ∷ xs) ≡ Some x
first_of_two p x xs found = rw found refl

second_of_two : {A : Type 0} (p : A → Bool) (x : A) (xs : List A) → p x ≡ false → find p (x ∷ xs) ≡ find p xs
second_of_two p x xs other = rw other refl

pub found_here : {A : Type 0} (p : A → Bool) (items : List A) (i : ℕ) (x : A) (whole : Option A) → i < length items → x ≡ get_or items i x → p x ≡ true → whole ≡ find p (drop i items) → Some x ≡ whole
found_here p items i x whole within is found so_far =
    sym (so_far ∙ here p items i x within is ∙ first_of_two p x (drop (i + 1) items) found)

pub found_later : {A : Type 0} (p : A → Bool) (items : List A) (i : ℕ) (x : A) (whole : Option A) → i < length items → x ≡ get_or items i x → p x ≡ false → whole ≡ find p (drop i items) → whole ≡ find p (drop (i + 1) items)
found_later p items i x whole within is other so_far =
    so_far ∙ here p items i x within is ∙ second_of_two p x (drop (i + 1) items) other

unless : (b : Bool) → (b ≡ true → ⊥) → b ≡ false
unless true never = absurd (never refl)
unless false never = refl

-- texts compared by value
pub equal_bytes : (a b : List ℕ) (same : Bool) → ((same ≡ true → a ≡ b) × (a ≡ b → same ≡ true)) → same ≡ true → bytes_eq a b ≡ true
equal_bytes a b same decides found = (bytes_eq-Decides a b).1 (decides.0 found)

pub other_bytes : (a b : List ℕ) (same : Bool) → ((same ≡ true → a ≡ b) × (a ≡ b → same ≡ true)) → same ≡ false → bytes_eq a b ≡ false
other_bytes a b same decides other =
    unless (bytes_eq a b) (λ e. let found = decides.1 ((bytes_eq-Decides a b).0 e) in cc)
