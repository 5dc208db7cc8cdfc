-- What serving a reader's lines to a session does.
use Rattle.std.specs.Prelude.{◌≡◌, ℕ, ◌^◌, ⊤, false, List, ◌++◌, All, Option, None, Some}
use Rattle.std.specs.Io.KnownBytes.{Consumes, Appends, IsAtEnd}
use Rattle.line_server.specs.declared.ended.Fault.{Fault}
use Rattle.line_server.specs.declared.ended.Fault.TheVariants.{Read, Endless, Write, WriteZero, Memory}
use Rattle.line_server.specs.declared.ended.ServeEnd.{ServeEnd}
use Rattle.line_server.specs.Lines.{whole_lines, lines_of}
use Rattle.line_server.specs.Session.{Exchanges, Answered, AreInTurn, lines_in, text_of, session_after}

-- the one list is a front of the other
abbrev pub IsFrontOf : {A : Type 0} → List A → List A → Type 0
IsFrontOf {A} front whole = (rest : List A) × (whole ≡ front ++ rest)

-- The lines that are answered, by how serving ended: all that were read, the rest behind the last newline among them;
-- after a fault of the reader those that a newline ended; after a fault of the writer, and where no memory was left to
-- write with, the first of them.
abbrev pub AreAnswered : Option Fault → List ℕ → List (List ℕ) → Type 0
AreAnswered None bytes answered = answered ≡ lines_of bytes
AreAnswered (Some (Read e)) bytes answered = answered ≡ whole_lines bytes
AreAnswered (Some (Endless reads)) bytes answered = answered ≡ whole_lines bytes
AreAnswered (Some (Write e)) bytes answered = IsFrontOf answered (lines_of bytes)
AreAnswered (Some WriteZero) bytes answered = IsFrontOf answered (lines_of bytes)
AreAnswered (Some Memory) bytes answered = IsFrontOf answered (lines_of bytes)

-- What was written of their text, by how serving ended: all, or a front of it.
abbrev pub IsWritten : Option Fault → List ℕ → List ℕ → Type 0
IsWritten None text output = output ≡ text
IsWritten (Some (Read e)) text output = output ≡ text
IsWritten (Some (Endless reads)) text output = output ≡ text
IsWritten (Some (Write e)) text output = IsFrontOf output text
IsWritten (Some WriteZero) text output = IsFrontOf output text
IsWritten (Some Memory) text output = IsFrontOf output text

-- Where the session stands, by how serving ended: behind the lines that are answered. Where no memory was left to answer
-- a line it is not used again.
abbrev pub Stands : {S : Type 0} → Option Fault → S → S → Type 0
Stands None new behind = new ≡ behind
Stands (Some (Read e)) new behind = new ≡ behind
Stands (Some (Endless reads)) new behind = new ≡ behind
Stands (Some (Write e)) new behind = ⊤
Stands (Some WriteZero) new behind = ⊤
Stands (Some Memory) new behind = ⊤

-- how many reads are made of a reader that comes to no end, those that are interrupted among them
abbrev pub most_reads : ℕ
most_reads = 2 ^ 32

-- Serving lines from one session to another: the bytes that the reader gave, the lines that were answered, and the bytes
-- that the writer took. `left` and `rest` are what the reader has left before and after, `held` and `holds` what the
-- writer holds, where these are known.
pub record Serves {S F : Type 0} (exchange : Exchanges S F) (start new : S) (left rest held holds : Option (List ℕ)) (ended : ServeEnd)
    : Type 0 where
  pub bytes : List ℕ
  pub answered : List (Answered S F)
  pub output : List ℕ
  pub consumed : Consumes left rest bytes
  pub written : Appends held holds output
  pub in_turn : AreInTurn exchange start answered
  pub lines : AreAnswered ended.fault bytes (lines_in answered)
  pub text : IsWritten ended.fault (text_of answered) output
  pub stands : Stands ended.fault new (session_after start answered)
  pub at_end : ended.fault ≡ None → IsAtEnd rest
  pub endless : (reads : ℕ) → ended.fault ≡ Some (Endless reads) → reads ≡ most_reads
  pub unrefused : ended.is_refused ≡ false → All (λ a. a.fate ≡ None) answered
  pub refused : All (λ a. a.fate ≡ None) answered → ended.is_refused ≡ false

-- Where reader and writer tell their bytes, no fault came and no memory was refused: all that the reader had was read,
-- and the text of its lines was written behind what the writer held.
pub record ServesWhole {S F : Type 0} (exchange : Exchanges S F) (start new : S) (input before : List ℕ) (holds : Option (List ℕ))
    : Type 0 where
  pub answered : List (Answered S F)
  pub in_turn : AreInTurn exchange start answered
  pub unrefused : All (λ a. a.fate ≡ None) answered
  pub lines : lines_in answered ≡ lines_of input
  pub stands : new ≡ session_after start answered
  pub written : holds ≡ Some (before ++ text_of answered)
