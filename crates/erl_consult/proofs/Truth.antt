-- Truth values.
use Rattle.std.proofs.Common.{◌≡◌, Bool, true, false, not, ◌&&◌, ◌||◌, refl, ap₂, sym, ◌∙◌, true≢false}

pub never : {A : Type 0} → false ≡ true → A
never e = absurd (true≢false (sym e))

pub clash : {A : Type 0} → (b : Bool) → b ≡ true → b ≡ false → A
clash b holds fails_it = absurd (true≢false (sym holds ∙ fails_it))

pub not_true : (b : Bool) → not b ≡ true → b ≡ false
not_true true e = absurd (true≢false (sym e))
not_true false e = refl

pub and-true : (a b : Bool) → a ≡ true → b ≡ true → a && b ≡ true
and-true a b a_is b_is = ap₂ (λ x y. x && y) a_is b_is

pub and_left : (a b : Bool) → a && b ≡ true → a ≡ true
and_left true b e = refl
and_left false b e = e

pub and_right : (a b : Bool) → a && b ≡ true → b ≡ true
and_right true b e = e
and_right false b e = absurd (true≢false (sym e))

pub or_true : (b : Bool) → b || true ≡ true
or_true true = refl
or_true false = refl

pub or-right : (a b : Bool) → b ≡ true → a || b ≡ true
or-right true b e = refl
or-right false b e = e

pub or_left : (a b : Bool) → a || b ≡ false → a ≡ false
or_left true b e = e
or_left false b e = refl

pub or_right : (a b : Bool) → a || b ≡ false → b ≡ false
or_right true b e = absurd (true≢false e)
or_right false b e = e
