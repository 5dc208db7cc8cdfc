-- The lines of a stream of bytes. A newline (10) ends a line; what is left behind the last newline is a line too,
-- where it is not empty.
use Rattle.std.specs.Prelude.{ℕ, ◌==◌, nat_lt, if◌then◌else◌, Bool, List, [], ◌∷◌, ◌++◌, length, Option, None, Some}
use Rattle.std.specs.List.{list_any, flat_map}

-- whether there is a newline among the bytes
abbrev pub has_newline : List ℕ → Bool
has_newline bytes = list_any (λ b. b == 10) bytes

-- The first of the lines gets a byte in front. Where there is no line, the byte is of the rest.
abbrev pub begun : ℕ → List (List ℕ) → List (List ℕ)
begun b [] = []
begun b (line ∷ lines) = (b ∷ line) ∷ lines

-- the lines that a newline ends, without it
abbrev pub whole_lines : List ℕ → List (List ℕ)
whole_lines [] = []
whole_lines (b ∷ bs) = if b == 10 then [] ∷ whole_lines bs else begun b (whole_lines bs)

-- what is left behind the last newline
abbrev pub rest_of : List ℕ → List ℕ
rest_of [] = []
rest_of (b ∷ bs) = if has_newline (b ∷ bs) then rest_of bs else b ∷ bs

abbrev pub last_line : List ℕ → List (List ℕ)
last_line [] = []
last_line (b ∷ bs) = (b ∷ bs) ∷ []

abbrev pub lines_of : List ℕ → List (List ℕ)
lines_of bytes = whole_lines bytes ++ last_line (rest_of bytes)

-- lines, each ended by a newline
abbrev pub closed : List (List ℕ) → List ℕ
closed lines = flat_map (λ line. line ++ 10 ∷ []) lines

-- the greatest number of bytes that a line may have, without its newline
unfoldable pub longest_line : ℕ
longest_line = 65536

-- What a session hears of a line: its bytes, or, of a line that has too many, that alone.
abbrev pub heard : List ℕ → Option (List ℕ)
heard line = if nat_lt longest_line (length line) then None else Some line
