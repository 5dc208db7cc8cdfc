-- What an error of reading quotes says of the text.
use Rattle.std.specs.Prelude.{◌≡◌, ℕ, List}
use Rattle.erl_chars.specs.declared.quotes.QuoteError.{QuoteError}
use Rattle.erl_chars.specs.declared.quotes.QuoteError.TheVariants.{Unclosed, BadEscape, Memory}
use Rattle.erl_chars.specs.Cursor.{offset}
use Rattle.erl_chars.specs.Quotes.{IsQuoted, unclosed, bad_escape}

-- behind an opening quote, in a text of so many bytes; lack of memory says nothing of the text
abbrev pub IsNotQuoted : ℕ → ℕ → List ℕ → QuoteError → Type 0
IsNotQuoted total quote cs Unclosed = IsQuoted quote cs unclosed
IsNotQuoted total quote cs (BadEscape at) = (here : List ℕ) × IsQuoted quote cs (bad_escape here) × (at ≡ offset total here)
IsNotQuoted total quote cs Memory = Unit {0}
