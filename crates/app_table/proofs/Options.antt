-- Options that are equal.
use Rattle.std.proofs.Common.{◌≡◌, false, true, Option, None, Some, ap}

pub none_some : {A : Type 0} {x : A} → None ≡ Some x → ⊥
none_some same = let no : ⊥ = cc in no

pub false_true : false ≡ true → ⊥
false_true same = let no : ⊥ = cc in no

abbrev held : {A : Type 0} → A → Option A → A
held x None = x
held x (Some y) = y

pub some_is : {A : Type 0} {x y : A} → Some x ≡ Some y → x ≡ y
some_is {x = x} same = ap (λ o. held x o) same
