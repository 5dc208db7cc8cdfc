-- A whole text as its tokens.
use Rattle.std.specs.Prelude.{◌≡◌, ℕ, List, Option, Some, None}
use Rattle.erl_scan.specs.declared.error.ReadError.{ReadError}
use Rattle.erl_chars.specs.Cursor.{byte_count, offset}
use Rattle.erl_chars.specs.Gaps.{after_gap}
use Rattle.erl_scan.specs.declared.token.Spot.{Spot}
use Rattle.erl_scan.specs.Tokens.{ends, fault, Comes, Reads}

-- What stops the tokens of a text of so many bytes, by what is left of it behind blanks and comments: its end, or a token
-- that is faulty by itself, with its fault where that is told.
abbrev pub IsStop : ℕ → List ℕ → Option ReadError → Type 0
IsStop total here None = Comes here ends
IsStop total here (Some error) = (at : List ℕ) × Comes here (fault error.kind at) × (error.at ≡ offset total at)

-- These are the tokens of a text, each where it stands, up to its end or to the first that is faulty by itself, and this is
-- that fault.
pub record IsScanOf (cs : List ℕ) (tokens : List Spot) (stop : Option ReadError) : Type 0 where
  pub left : List ℕ
  pub read : Reads (byte_count cs) cs tokens left
  pub stops : IsStop (byte_count cs) (after_gap left) stop

-- The law: a text has such tokens and such a stop, and only these.
pub record HasOneScan (cs : List ℕ) : Type 0 where
  pub tokens : List Spot
  pub stop : Option ReadError
  pub is : IsScanOf cs tokens stop
  pub only : (ts : List Spot) → (s : Option ReadError) → IsScanOf cs ts s → (ts ≡ tokens) × (s ≡ stop)
