-- Steps over one character between quotes.
use Rattle.std.specs.Prelude.{◌≡◌, ℕ, List, Option, Some, None, Result, Ok, Err}
use Rattle.erl_chars.specs.declared.quotes.QuoteError.{QuoteError}
use Rattle.erl_chars.specs.declared.quotes.QuoteError.TheVariants.{Unclosed, BadEscape, Memory}
use Rattle.erl_chars.specs.Cursor.{offset}
use Rattle.erl_chars.specs.Quotes.{stands, closing, cut, wrong, character}

-- what reading one character between quotes gives: a character, none at the closing quote, or an error
abbrev pub ReadsCharacter : ℕ → ℕ → List ℕ → Result (Option ℕ) QuoteError → List ℕ → Type 0
ReadsCharacter total quote cs (Ok (Some c)) rest = character quote cs ≡ stands c rest
ReadsCharacter total quote cs (Ok None) rest = character quote cs ≡ closing rest
ReadsCharacter total quote cs (Err Unclosed) rest = character quote cs ≡ cut
ReadsCharacter total quote cs (Err (BadEscape at)) rest = (character quote cs ≡ wrong) × (at ≡ offset total cs)
ReadsCharacter total quote cs (Err Memory) rest = ⊥
