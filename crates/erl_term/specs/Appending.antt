-- What is appended to an output.
use Rattle.std.specs.Prelude.{◌≡◌, ℕ, ◌++◌, List, length, take, Result, MatchResult}

-- These bytes are appended; or memory is refused, and what stood there still stands before what is there now.
abbrev pub Appends : {T E : Type 0} → Result T E → List ℕ → List ℕ → List ℕ → Type 0
Appends result bytes old new = MatchResult result (λ _. new ≡ old ++ bytes) (λ _. take (length old) new ≡ old)
