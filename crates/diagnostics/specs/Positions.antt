-- Lines and columns of a text.
use Rattle.std.specs.Prelude.{◌≡◌, ◌⊎◌, ℕ, ◌+◌, ◌==◌, nat_le, nat_lt, ◌&&◌, not, Bool, List, [], ◌∷◌, ◌++◌}
use Rattle.std.specs.List.{count_by}
use Rattle.diagnostics.specs.declared.position.Position.{Position}

-- whether a byte is a newline
abbrev pub is_newline : ℕ → Bool
is_newline b = b == 10

-- whether a byte of UTF-8 begins a character: it is not from 128 to 191
abbrev pub begins_character : ℕ → Bool
begins_character b = not (nat_le 128 b && nat_lt b 192)

-- some lines, each ended by a newline
abbrev pub AreLines : List ℕ → Type 0
AreLines bytes = (bytes ≡ []) ⊎ ((front : List ℕ) × (bytes ≡ front ++ 10 ∷ []))

-- The position of what stands behind some bytes: these are lines, and the first bytes of a line. Lines and columns count
-- from 1, and a column is a character.
pub record StandsBehind (before : List ℕ) (position : Position) : Type 0 where
  pub lines : List ℕ
  pub begun : List ℕ
  pub parts : before ≡ lines ++ begun
  pub are_lines : AreLines lines
  pub is_begun : count_by is_newline begun ≡ 0
  pub line : position.line ≡ 1 + count_by is_newline lines
  pub column : position.column ≡ 1 + count_by begins_character begun
