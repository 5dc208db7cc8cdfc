-- Steps over digits.
use Rattle.std.specs.Prelude.{◌≡◌, ℕ, min, true, List, [], ◌∷◌, Option, Some, None}
use Rattle.std.specs.Char.{digit_value}
use Rattle.std.specs.Str.Parse.{digits_value_after}
use Rattle.erl_chars.specs.Chars.{is_digit, front}

-- what a step over a digit of a base gives, by what was left before it and is left behind it
abbrev pub TakesDigit : ℕ → List ℕ → Option ℕ → List ℕ → Type 0
TakesDigit base cs None rest = (cs ≡ rest) × (front (is_digit base) cs ≡ [])
TakesDigit base cs (Some digit) rest = (c : ℕ) × (cs ≡ c ∷ rest) × (is_digit base c ≡ true) × (digit ≡ digit_value c)

-- the number that hexadecimal digits write behind a number, or 2^32 - 1 where it is larger
abbrev pub saturated : ℕ → List ℕ → ℕ
saturated n ds = min 4294967295 (digits_value_after 16 n ds)
