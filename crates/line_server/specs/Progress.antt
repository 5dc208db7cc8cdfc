-- What the parts of serving do: to the bytes read, to the lines answered, and to the answers written.
use Rattle.std.specs.Prelude.{◌≡◌, ℕ, ◌+◌, Bool, false, List, ◌++◌, take, All, Option, None, Some, ⊤, Result, Ok, Err}
use Rattle.std.specs.Io.KnownBytes.{Appends}
use Rattle.line_server.specs.declared.ended.Fault.{Fault}
use Rattle.line_server.specs.declared.ended.Fault.TheVariants.{Read, Endless, Write, WriteZero, Memory}
use Rattle.line_server.specs.declared.waiting.Waiting.{Waiting}
use Rattle.line_server.specs.declared.pending.Pending.{Pending}
use Rattle.line_server.specs.Lines.{whole_lines, rest_of, lines_of, heard, longest_line}
use Rattle.line_server.specs.Session.{Exchanges, Answered, IsExchange, AreInTurn, lines_in, text_of, session_after}
use Rattle.line_server.specs.Serving.{IsFrontOf}

-- A line was answered by an exchange that its fate allows: the session and the answers go on by it, and it is kept in mind
-- whether there was a fate.
pub record Hears {S F : Type 0} (exchange : Exchanges S F) (line : List ℕ) (old new : S) (before after : Waiting) : Type 0 where
  pub fate : Option F
  pub is_exchange : IsExchange (exchange fate old (heard line)) new before.text.items after.text.items
  pub unrefused : after.is_refused ≡ false → (before.is_refused ≡ false) × (fate ≡ None)
  pub refused : fate ≡ None → after.is_refused ≡ before.is_refused

-- the answers are as they were
pub record Stays (old new : Waiting) : Type 0 where
  pub text : new.text.items ≡ old.text.items
  pub refused : new.is_refused ≡ old.is_refused

-- How far serving has come after some bytes, of whose lines' text a front was written: each line that a newline ended is
-- answered, and of the line that was begun as much is kept as tells whether it is too long.
pub record SoFar {S F : Type 0} (exchange : Exchanges S F) (start : S) (bytes output : List ℕ) (now : S) (pending : Pending)
    : Type 0 where
  pub answered : List (Answered S F)
  pub in_turn : AreInTurn exchange start answered
  pub lines : lines_in answered ≡ whole_lines bytes
  pub text : text_of answered ≡ output ++ pending.answers.text.items
  pub stands : now ≡ session_after start answered
  pub line : pending.line.bytes.items ≡ take (longest_line + 1) (rest_of bytes)
  pub unrefused : pending.answers.is_refused ≡ false → All (λ a. a.fate ≡ None) answered
  pub refused : All (λ a. a.fate ≡ None) answered → pending.answers.is_refused ≡ false

-- Some lines are answered, and all of their text is written or waits in the answers.
pub record IsAnswered {S F : Type 0} (exchange : Exchanges S F) (start : S) (lines : List (List ℕ)) (output : List ℕ) (now : S)
    (answers : Waiting) : Type 0 where
  pub answered : List (Answered S F)
  pub in_turn : AreInTurn exchange start answered
  pub all : lines_in answered ≡ lines
  pub text : text_of answered ≡ output ++ answers.text.items
  pub stands : now ≡ session_after start answered
  pub unrefused : answers.is_refused ≡ false → All (λ a. a.fate ≡ None) answered
  pub refused : All (λ a. a.fate ≡ None) answered → answers.is_refused ≡ false

-- A front of some lines is answered, and a front of the text of these is written.
pub record IsFrontAnswered {S F : Type 0} (exchange : Exchanges S F) (start : S) (lines : List (List ℕ)) (output : List ℕ)
    (is_refused : Bool) : Type 0 where
  pub answered : List (Answered S F)
  pub in_turn : AreInTurn exchange start answered
  pub front : IsFrontOf (lines_in answered) lines
  pub text : IsFrontOf output (text_of answered)
  pub unrefused : is_refused ≡ false → All (λ a. a.fate ≡ None) answered
  pub refused : All (λ a. a.fate ≡ None) answered → is_refused ≡ false

-- a writer took a front of a text
pub record TakesFront (held holds : Option (List ℕ)) (text : List ℕ) : Type 0 where
  pub taken : List ℕ
  pub left : List ℕ
  pub parts : text ≡ taken ++ left
  pub appended : Appends held holds taken

-- A writer took a front of a text, and the rest of it is left.
pub record Moves (held holds : Option (List ℕ)) (old new : List ℕ) : Type 0 where
  pub taken : List ℕ
  pub parts : old ≡ taken ++ new
  pub appended : Appends held holds taken

-- a fault after which only a front of the text is owed
abbrev pub IsOfWriting : Fault → Type 0
IsOfWriting (Read e) = ⊥
IsOfWriting (Endless reads) = ⊥
IsOfWriting (Write e) = ⊤
IsOfWriting WriteZero = ⊤
IsOfWriting Memory = ⊤

-- Some bytes were taken, and so many of the answers written.
pub record GoesOn {S F : Type 0} (exchange : Exchanges S F) (bytes : List ℕ) (old new : S) (held holds : Option (List ℕ))
    (before after : Pending) : Type 0 where
  pub taken : List ℕ
  pub appended : Appends held holds taken
  pub goes : (start : S) (had output : List ℕ) → SoFar exchange start had output old before →
      SoFar exchange start (had ++ bytes) (output ++ taken) new after

-- Serving stopped among some bytes with a fault after which a front of the text is owed.
pub record StopsIn {S F : Type 0} (exchange : Exchanges S F) (bytes : List ℕ) (old : S) (held holds : Option (List ℕ))
    (before after : Pending) (fault : Fault) : Type 0 where
  pub of_writing : IsOfWriting fault
  pub taken : List ℕ
  pub appended : Appends held holds taken
  pub part : (start : S) (had output : List ℕ) → SoFar exchange start had output old before →
      IsFrontAnswered exchange start (lines_of (had ++ bytes)) (output ++ taken) after.answers.is_refused

-- The rest behind the last newline was answered too, where it isn't empty, and the answers were written.
pub record Finishes {S F : Type 0} (exchange : Exchanges S F) (old new : S) (held holds : Option (List ℕ)) (before after : Pending)
    : Type 0 where
  pub taken : List ℕ
  pub appended : Appends held holds taken
  pub goes : (start : S) (had output : List ℕ) → SoFar exchange start had output old before →
      IsAnswered exchange start (lines_of had) (output ++ taken) new after.answers

-- the fault of a result
abbrev pub fault_of : Result (Unit {0}) Fault → Option Fault
fault_of (Ok u) = None
fault_of (Err e) = Some e
