-- Kinds of characters in Erlang texts, by their code points (Erlang Reference Manual, Character Set).
use Rattle.std.specs.Prelude.{ℕ, nat_le, nat_lt, ◌==◌, Bool, not, ◌&&◌, ◌||◌, if◌then◌else◌, List, [], ◌∷◌}
use Rattle.std.specs.Char.{digit_value}

-- whether a code point is at least the first and at most the last
abbrev pub is_between : ℕ → ℕ → ℕ → Bool
is_between first last c = nat_le first c && nat_le c last

-- blanks: 0 to 32, and 128 to 160
abbrev pub is_blank : ℕ → Bool
is_blank c = nat_le c 32 || is_between 128 160 c

-- `0` to `9`
abbrev pub is_decimal : ℕ → Bool
is_decimal c = is_between 48 57 c

-- `a` to `z`, and 223 to 255 of Latin-1 but the sign of division (247)
abbrev pub is_small : ℕ → Bool
is_small c = is_between 97 122 c || (is_between 223 255 c && not (c == 247))

-- `A` to `Z`, and 192 to 222 of Latin-1 but the sign of multiplication (215)
abbrev pub is_capital : ℕ → Bool
is_capital c = is_between 65 90 c || (is_between 192 222 c && not (c == 215))

-- what an atom without quotes, or a variable, goes on with: letters, digits, `_` and `@`
abbrev pub is_name_char : ℕ → Bool
is_name_char c = is_small c || (is_capital c || (is_decimal c || ((c == 95) || (c == 64))))

-- what a variable begins with: a capital letter, or `_`
abbrev pub begins_variable : ℕ → Bool
begins_variable c = is_capital c || (c == 95)

-- whether a character is a digit of a base, 2 to 36: `0` to `9`, then letters of either case for 10 and more
abbrev pub is_digit : ℕ → ℕ → Bool
is_digit base c = nat_lt (digit_value c) base

-- the longest front of which every character passes a test
abbrev pub front : (ℕ → Bool) → List ℕ → List ℕ
front p [] = []
front p (c ∷ cs) = if p c then c ∷ front p cs else []

-- and what is left behind it
abbrev pub after_front : (ℕ → Bool) → List ℕ → List ℕ
after_front p [] = []
after_front p (c ∷ cs) = if p c then after_front p cs else c ∷ cs
