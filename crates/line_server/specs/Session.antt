-- What a session makes of lines.
use Rattle.std.specs.Prelude.{◌≡◌, ℕ, List, [], ◌∷◌, ◌++◌, map, Option}
use Rattle.std.specs.List.{flat_map}
use Rattle.line_server.specs.Lines.{heard}

-- One line answered: the bytes that are written, and the session after it.
pub record Exchange (S : Type 0) : Type 0 where
  pub text : List ℕ
  pub after : S

-- How a session may answer a line, by what became of it for lack of memory: its fate, or none where no memory was
-- refused. The line is its bytes, or none where it is too long.
abbrev pub Exchanges : Type 0 → Type 0 → Type 1
Exchanges S F = Option F → S → Option (List ℕ) → Exchange S → Type 0

-- a line was answered by one of these exchanges: the session is the one after it, and its text is appended
abbrev pub IsExchange : {S : Type 0} → (Exchange S → Type 0) → S → List ℕ → List ℕ → Type 0
IsExchange {S} may session old new = (t : Exchange S) × may t × (session ≡ t.after) × (new ≡ old ++ t.text)

-- A line that was answered, what became of it, and its exchange.
pub record Answered (S F : Type 0) : Type 0 where
  pub line : List ℕ
  pub fate : Option F
  pub exchange : Exchange S

-- each of these lines was answered in the session that those before it leave
abbrev pub AreInTurn : {S F : Type 0} → Exchanges S F → S → List (Answered S F) → Type 0
AreInTurn may s [] = Unit {0}
AreInTurn may s (a ∷ others) = may a.fate s (heard a.line) a.exchange × AreInTurn may a.exchange.after others

-- the lines
abbrev pub lines_in : {S F : Type 0} → List (Answered S F) → List (List ℕ)
lines_in answered = map (λ a. a.line) answered

-- their text
abbrev pub text_of : {S F : Type 0} → List (Answered S F) → List ℕ
text_of answered = flat_map (λ a. a.exchange.text) answered

-- the session after them
abbrev pub session_after : {S F : Type 0} → S → List (Answered S F) → S
session_after s [] = s
session_after s (a ∷ others) = session_after a.exchange.after others
