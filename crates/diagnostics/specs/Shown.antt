-- Which characters are shown as escapes.
use Rattle.std.specs.Prelude.{ℕ, ◌≡◌, ◌==◌, nat_le, ◌||◌, ◌&&◌, Bool, false, List, All}

-- whether a code point is from the first to the last
abbrev pub is_within : ℕ → ℕ → ℕ → Bool
is_within first last c = nat_le first c && nat_le c last

-- Whether a character is shown as an escape: the controls of ASCII and of Latin-1 (0 to 31, 127 to 159); the line and the
-- paragraph separator (U+2028, U+2029); and those that set the direction of a text (Unicode, Bidi_Control: U+061C, U+200E,
-- U+200F, U+202A to U+202E, U+2066 to U+2069).
abbrev pub is_hidden : ℕ → Bool
is_hidden c = is_within 0 31 c || (is_within 127 159 c || ((c == 1564) || (is_within 8206 8207 c || (is_within 8232 8238 c ||
    is_within 8294 8297 c))))

-- no character of a text is hidden
abbrev pub IsOneLine : List ℕ → Type 0
IsOneLine characters = All (λ c. is_hidden c ≡ false) characters
