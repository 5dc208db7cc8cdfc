-- The bytes of the pieces of a page.
use Rattle.std.specs.Prelude.{◌≡◌, ℕ, List, [], ◌∷◌, ◌++◌}
use Rattle.std.specs.Fmt.{decimal}
use Rattle.std.specs.Str.{chars, IsUtf8}
use Rattle.diagnostics.specs.Shown.{IsOneLine}
use Rattle.rehearsal_page.specs.Escaping.{escaped}
use Rattle.rehearsal_page.specs.declared.parts.Part.{Part}
use Rattle.rehearsal_page.specs.declared.parts.Part.TheVariants.{Markup, Text, Number}

-- How a text is shown: without hidden characters, and unchanged if it has none. How a hidden one is written is left open.
pub record IsShown (text shown : List ℕ) : Type 0 where
  pub is_utf8 : IsUtf8 shown
  pub is_one_line : IsOneLine (chars shown)
  pub plain : IsUtf8 text → IsOneLine (chars text) → shown ≡ text

-- a text is written as it is shown, escaped
abbrev pub IsTextWritten : List ℕ → List ℕ → Type 0
IsTextWritten text bytes = (shown : List ℕ) × IsShown text shown × (bytes ≡ escaped shown)

-- a piece is written: markup unchanged, and a number in decimal
abbrev pub IsWritten : Part → List ℕ → Type 0
IsWritten (Markup markup) bytes = bytes ≡ markup.now
IsWritten (Text text) bytes = IsTextWritten text.now bytes
IsWritten (Number number) bytes = bytes ≡ decimal number

-- pieces are written, one after the other
unfoldable pub AreWritten : List Part → List ℕ → Type 0
AreWritten [] bytes = bytes ≡ []
AreWritten (part ∷ parts) bytes =
    (first : List ℕ) × (rest : List ℕ) × IsWritten part first × AreWritten parts rest × (bytes ≡ first ++ rest)

-- bytes are appended to others, and this holds for them
abbrev pub Adds : (List ℕ → Type 0) → List ℕ → List ℕ → Type 0
Adds Holds old new = (bytes : List ℕ) × Holds bytes × (new ≡ old ++ bytes)

-- the markup of a piece, and of pieces

abbrev pub markup_in : Part → List ℕ
markup_in (Markup markup) = markup.now
markup_in (Text text) = []
markup_in (Number number) = []

unfoldable pub markup_of : List Part → List ℕ
markup_of [] = []
markup_of (part ∷ parts) = markup_in part ++ markup_of parts
