-- Numbers as they are read, in 64 bits.
use Rattle.std.specs.Prelude.{◌≡◌, ℕ, List, [], ◌∷◌, Option, Some, None}
use Rattle.std.specs.Char.{digit_value}
use Rattle.erl_scan.specs.declared.numbers.Number.{Number as Read}
use Rattle.erl_scan.specs.declared.numbers.Number.TheVariants.{Integer, Float, NoBase}
use Rattle.erl_scan.specs.Numbers.{Number, whole, real, no_base, digits_on, after_digits, saturated}

-- a number that was read, and what is left behind it
abbrev pub number_of : Read → List ℕ → Number
number_of (Integer n) rest = whole n rest
number_of Float rest = real rest
number_of NoBase rest = no_base

abbrev pub saturated_number : Number → Number
saturated_number (whole n rest) = whole (saturated n) rest
saturated_number (real rest) = real rest
saturated_number no_base = no_base

-- the next digit that a number goes on with, by its value, and what is left behind it
abbrev pub GoesOn : ℕ → List ℕ → Option ℕ → List ℕ → Type 0
GoesOn base cs None rest = (digits_on base cs ≡ []) × (after_digits base cs ≡ cs) × (rest ≡ cs)
GoesOn base cs (Some d) rest =
    (c : ℕ) × (d ≡ digit_value c) × (digits_on base cs ≡ c ∷ digits_on base rest) ×
    (after_digits base cs ≡ after_digits base rest)
