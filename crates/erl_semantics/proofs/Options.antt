-- Options that are equal.
use Rattle.std.specs.Prelude.{◌≡◌, Option, None, Some}
use Rattle.std.proofs.Common.{ap, subst}

abbrev Filled : {A : Type 0} → Option A → Type 0
Filled None = ⊥
Filled (Some x) = Unit {0}

pub some_none : {A : Type 0} {x : A} → Some x ≡ None → ⊥
some_none same = subst (λ o. Filled o) same tt

abbrev held : {A : Type 0} → A → Option A → A
held x None = x
held x (Some y) = y

pub some_injective : {A : Type 0} {x y : A} → Some x ≡ Some y → x ≡ y
some_injective {x = x} same = ap (λ o. held x o) same
