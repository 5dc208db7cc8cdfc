-- How a call is made, and its reply waited for.
use Rattle.std.specs.Prelude.{◌≡◌, ℕ, ◌+◌, ◌%◌, zero, suc, Bool, ◌||◌, if◌then◌else◌, nat_le, nat_eq}
use Rattle.std.specs.Prelude.{List, [], ◌∷◌, ◌++◌, All, find, length, Option, None, Some, Ok, Err}
use Rattle.erl_term.specs.declared.atom.Atom.{Atom}
use Rattle.erl_term.specs.declared.term.Term.{Term}
use Rattle.process_effects.specs.declared.told.Reply.{Reply}
use Rattle.node_history.specs.declared.command.Command.TheVariants.{Call, Replies}
use Rattle.node_history.specs.declared.command.Said.TheVariants.{Called, Replied}
use Rattle.node_history.specs.declared.entry.Line.{Line}
use Rattle.node_lock.specs.Core.{SeatState}
use Rattle.node_lock.specs.Seats.{Lists}
use Rattle.node_lock.specs.declared.error.LockError.TheVariants as lock
use Rattle.undo_journal.specs.declared.error.JournalError.{JournalError}
use Rattle.node_types.specs.Note.{Note}
use Rattle.node_types.specs.declared.event.Refusal.{Refusal}
use Rattle.workers.specs.Lines.{line, with_lines}
use Rattle.workers.specs.declared.error.WorkError.{WorkError}
use Rattle.workers.specs.declared.error.WorkError.TheVariants as work

-- the first reply to the call of a number
abbrev pub reply_to : ℕ → List Reply → Option Reply
reply_to number replies = find (λ reply. nat_eq reply.number number) replies

-- Which waits, counted from 1, are followed by a read: the first 32, and then each whose number is a multiple of 64.
abbrev pub is_followed : ℕ → Bool
is_followed wait = nat_le wait 32 || nat_eq (wait % 64) 0

-- how many reads follow so many waits
abbrev pub reads_of : ℕ → ℕ
reads_of zero = 0
reads_of (suc wait) = if is_followed (suc wait) then reads_of wait + 1 else reads_of wait

-- a read of replies from an index on
abbrev pub line_of_read : ℕ → List Reply → Line
line_of_read from replies = line (Replies from) (Ok (Replied replies))

-- Reads, in order, each from where the one before ended: their lines, and where the last one ends.

abbrev pub lines_of_reads : ℕ → List (List Reply) → List Line
lines_of_reads from [] = []
lines_of_reads from (rs ∷ reads) = line_of_read from rs ∷ lines_of_reads (from + length rs) reads

abbrev pub end_of_reads : ℕ → List (List Reply) → ℕ
end_of_reads from [] = from
end_of_reads from (rs ∷ reads) = end_of_reads (from + length rs) reads

-- Replies are read, again and again, until the reply to the call of a number is there: the last read has it, and none before.
pub record Awaits (number from : ℕ) (old new : SeatState) (reply : Reply) : Type 0 where
  pub before : List (List Reply)
  pub none : All (λ rs. reply_to number rs ≡ None) before
  pub last : List Reply
  pub first : reply_to number last ≡ Some reply
  pub lines : new ≡ with_lines old (lines_of_reads from before ++ line_of_read (end_of_reads from before) last ∷ [])

-- a call is accepted, and has this number
abbrev pub IsCalled : Atom → Term → ℕ → SeatState → SeatState → Type 0
IsCalled name term number old called = called ≡ with_lines old (line (Call name term) (Ok (Called number)) ∷ [])

-- A call is accepted, and then replies are read until its own is there, which is told. There are no other lines.
pub record Calls (name : Atom) (term : Term) (old new : SeatState) (reply : Reply) : Type 0 where
  pub number : ℕ
  pub called : SeatState
  pub accepted : IsCalled name term number old called
  pub from : ℕ
  pub awaits : Awaits number from called new reply

-- One read from an index on: the reply to the call of a number is there, or the next read begins where this one ends.
abbrev pub Looks : ℕ → ℕ → ℕ → Option Reply → SeatState → SeatState → Type 0
Looks number from next None old new = (rs : List Reply) × (reply_to number rs ≡ None) × (next ≡ from + length rs) ×
    (new ≡ with_lines old (line_of_read from rs ∷ []))
Looks number from next (Some reply) old new = (rs : List Reply) × (reply_to number rs ≡ Some reply) ×
    (new ≡ with_lines old (line_of_read from rs ∷ []))

-- Replies were read so often, from one index to another, and none to the call of a number was there.
pub record HasRead (number from next often : ℕ) (old now : SeatState) : Type 0 where
  pub before : List (List Reply)
  pub count : length before ≡ often
  pub none : All (λ rs. reply_to number rs ≡ None) before
  pub ends : next ≡ end_of_reads from before
  pub lines : now ≡ with_lines old (lines_of_reads from before)

-- One read from an index on fails for lack of memory: nothing is listed; or no reply to the call of a number is there, and where
-- the read ends can't be counted; or the reply is there, and can't be copied.
pub data LookFails (number from : ℕ) (old new : SeatState) : WorkError → Type 0 where
  not_read : new ≡ old → LookFails number from old new work.Memory
  not_counted : (next : ℕ) → Looks number from next None old new → LookFails number from old new work.Memory
  not_copied : (next : ℕ) (reply : Reply) → Looks number from next (Some reply) old new →
      LookFails number from old new work.Memory

-- Why the reply to the call of a number is not told: no read has had it, be it that all waits are over or that memory was
-- refused; or the last one has, and memory to copy it was refused.
pub data WaitFails (number from waits : ℕ) (old new : SeatState) : WorkError → Type 0 where
  in_vain : (next : ℕ) → HasRead number from next (reads_of waits) old new → WaitFails number from waits old new work.NoReply
  cut_short : (next often : ℕ) → HasRead number from next often old new → WaitFails number from waits old new work.Memory
  lost : (reply : Reply) → Awaits number from old new reply → WaitFails number from waits old new work.Memory

-- Why a call is not answered in so many waits, and what the list has more. It's refused; or it was accepted, and no read has
-- had its reply, be it that all waits are over or that memory was refused; or the last one has, and memory to copy it was
-- refused; or memory was refused before it arrived.
pub data CallFails (name : Atom) (term : Term) (waits : ℕ) (old new : SeatState) : WorkError → Type 0 where
  refused : (e : JournalError Refusal Note) → Lists (Call name term) (Err (lock.Journal e)) old new →
      CallFails name term waits old new (work.Lock (lock.Journal e))
  unanswered : (number from next : ℕ) (called : SeatState) → IsCalled name term number old called →
      HasRead number from next (reads_of waits) called new → CallFails name term waits old new work.NoReply
  unread : (number from next often : ℕ) (called : SeatState) → IsCalled name term number old called →
      HasRead number from next often called new → CallFails name term waits old new work.Memory
  uncopied : (reply : Reply) → Calls name term old new reply → CallFails name term waits old new work.Memory
  not_called : new ≡ old → CallFails name term waits old new work.Memory
