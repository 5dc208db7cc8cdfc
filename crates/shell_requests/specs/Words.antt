-- The words of a line.
use Rattle.std.specs.Prelude.{ℕ, ◌^◌, ◌==◌, nat_lt, nat_le, Bool, true, false, ◌&&◌, ◌||◌, if◌then◌else◌, List, [], ◌∷◌, filter}
use Rattle.std.specs.Prelude.{Option, None, Some}
use Rattle.std.specs.List.{list_all, slice_split, after_first}
use Rattle.std.specs.Str.{all_ascii_digits}
use Rattle.std.specs.Str.Parse.{digits_value}

abbrev pub has_bytes : List ℕ → Bool
has_bytes [] = false
has_bytes (b ∷ bs) = true

-- what stands between spaces (32), where it is not empty
abbrev pub words_of : List ℕ → List (List ℕ)
words_of text = filter has_bytes (slice_split (λ b. b == 32) text)

abbrev pub begins_comment : List ℕ → Bool
begins_comment [] = false
begins_comment (b ∷ bs) = b == 37

-- a line without an answer: a comment begins with `%` (37), and a blank line has no byte but spaces
abbrev pub is_silent : List ℕ → Bool
is_silent line = begins_comment line || list_all (λ b. b == 32) line

-- the one word, where there is one and no other
abbrev pub only_word : List (List ℕ) → Option (List ℕ)
only_word [] = None
only_word (w ∷ []) = Some w
only_word (w ∷ v ∷ ws) = None

-- a text from its first byte on that is no space
abbrev pub after_spaces : List ℕ → List ℕ
after_spaces [] = []
after_spaces (b ∷ bs) = if b == 32 then after_spaces bs else b ∷ bs

-- what stands behind the first word of a text, from its first byte on that is no space
abbrev pub behind_word : List ℕ → List ℕ
behind_word text = after_spaces (after_first (λ b. b == 32) (after_spaces text))

-- the first of some words, with what stands behind it, where there is something
abbrev pub with_rest : List (List ℕ) → List ℕ → Option (List ℕ × List ℕ)
with_rest [] rest = None
with_rest (w ∷ ws) [] = None
with_rest (w ∷ ws) (b ∷ bs) = Some (w, b ∷ bs)

-- the two words, where there are two and no other
abbrev pub two_words : List (List ℕ) → Option (List ℕ × List ℕ)
two_words [] = None
two_words (w ∷ []) = None
two_words (w ∷ v ∷ []) = Some (w, v)
two_words (w ∷ v ∷ u ∷ ws) = None

-- `0` to `9`
abbrev pub is_digit : ℕ → Bool
is_digit b = nat_le 48 b && nat_le b 57

-- the number that a word of decimal digits writes, where it is below 2^64
abbrev pub number_of : List ℕ → Option ℕ
number_of ds =
    if has_bytes ds && all_ascii_digits ds then
    (if nat_lt (digits_value 10 ds) (2 ^ 64) then Some (digits_value 10 ds) else None) else None
