-- A scanner as contracts see it, and what its answers say.
use Rattle.std.specs.Prelude.{◌≡◌, ℕ, List, [], Option, Some, None, Result, Ok, Err}
use Rattle.erl_scan.specs.declared.error.Fault.TheVariants.{Memory}
use Rattle.erl_scan.specs.declared.error.ReadError.{ReadError}
use Rattle.erl_chars.specs.Cursor.{offset, left as left_of, total as total_of}
use Rattle.erl_scan.specs.declared.scanner.Scanner.{Scanner}
use Rattle.erl_scan.specs.declared.token.Spot.{Spot}
use Rattle.erl_scan.specs.Tokens.{Comes, ends, token, fault}

-- the characters that are left, and the bytes of the whole text
abbrev pub left : Scanner → List ℕ
left s = left_of s.cursor

abbrev pub total : Scanner → ℕ
total s = total_of s.cursor

-- an error says what comes next, but where memory was refused
pub data IsFault (whole : ℕ) (here : List ℕ) (error : ReadError) : Type 0 where
  memory : error.kind ≡ Memory → IsFault whole here error
  faulty : (at : List ℕ) → Comes here (fault error.kind at) → error.at ≡ offset whole at → IsFault whole here error

-- what an answer says of what is left, of a text of so many bytes, and of what is left after it
abbrev pub Scans : ℕ → List ℕ → List ℕ → Result (Option Spot) ReadError → Type 0
Scans whole here rest (Ok None) = Comes here ends × (rest ≡ [])
Scans whole here rest (Ok (Some s)) = Comes here (token s.what rest) × (s.at ≡ offset whole here)
Scans whole here rest (Err e) = IsFault whole here e
