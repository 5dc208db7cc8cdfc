-- Numbers without a sign (Erlang Reference Manual, Numbers), by what is left of the text at their first character.
use Rattle.std.specs.Prelude.{ℕ, ◌-◌, ◌^◌, min, nat_le, ◌==◌, Bool, false, ◌&&◌, ◌||◌, if◌then◌else◌, List, [], ◌∷◌}
use Rattle.std.specs.Str.Parse.{digits_value}
use Rattle.erl_chars.specs.Chars.{is_digit}

abbrev pub begins_with_digit : ℕ → List ℕ → Bool
begins_with_digit base [] = false
begins_with_digit base (c ∷ cs) = is_digit base c

-- The digits of a base that a number goes on with behind its first: between two of them one `_` (95) may stand.
abbrev pub digits_on : ℕ → List ℕ → List ℕ
digits_on base [] = []
digits_on base (c ∷ cs) =
    if is_digit base c then c ∷ digits_on base cs else (if (c == 95) && begins_with_digit base cs then digits_on base cs else [])

-- and what is left behind them
abbrev pub after_digits : ℕ → List ℕ → List ℕ
after_digits base [] = []
after_digits base (c ∷ cs) =
    if is_digit base c then after_digits base cs else
    (if (c == 95) && begins_with_digit base cs then after_digits base cs else c ∷ cs)

-- the value of the digits that the characters begin with
abbrev pub value_in : ℕ → List ℕ → ℕ
value_in base cs = digits_value base (digits_on base cs)

-- what a number is
pub data Number : Type 0 where
  -- an integer, and what is left behind it
  whole : ℕ → List ℕ → Number
  -- a float, and what is left behind it
  real : List ℕ → Number
  -- digits behind a base that is not 2 to 36
  no_base : Number

-- the exponent of a float, in decimal digits behind its sign, if any; what is left behind it
abbrev pub after_sign : List ℕ → List ℕ → List ℕ
after_sign cs [] = cs
after_sign cs (d ∷ ds) =
    if is_digit 10 d then after_digits 10 (d ∷ ds) else
    (if ((d == 43) || (d == 45)) && begins_with_digit 10 ds then after_digits 10 ds else cs)

-- what is left behind the exponent, where there is one: `e` (101) or `E` (69), a sign or none, and digits
abbrev pub after_exponent : List ℕ → List ℕ
after_exponent [] = []
after_exponent (c ∷ cs) = if (c == 101) || (c == 69) then after_sign (c ∷ cs) cs else c ∷ cs

-- a number of decimal digits, by their value and what is left behind them: a dot (46) and a digit make it a float, and
-- `#` (35) and digits of the base an integer in that base
abbrev pub number_by : ℕ → List ℕ → Number
number_by n [] = whole n []
number_by n (c ∷ cs) =
    if (c == 46) && begins_with_digit 10 cs then real (after_exponent (after_digits 10 cs)) else
    (if c == 35 then (if nat_le 2 n && nat_le n 36 then
    (if begins_with_digit n cs then whole (value_in n cs) (after_digits n cs) else whole n (c ∷ cs)) else no_base)
    else whole n (c ∷ cs))

-- the number in front of characters that begin with a decimal digit
abbrev pub number_in : List ℕ → Number
number_in cs = number_by (value_in 10 cs) (after_digits 10 cs)

-- a number in 64 bits, where the greatest stands for all that are greater
unfoldable pub saturated : ℕ → ℕ
saturated n = min n (2 ^ 64 - 1)
