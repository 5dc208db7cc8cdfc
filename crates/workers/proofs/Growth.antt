-- A seat's list only grows.
use Rattle.std.proofs.Common.{◌≡◌, ℕ, List, [], ◌++◌, Ok, Err, sym, ap, ◌∙◌, append-nil}
use Rattle.erl_term.specs.declared.atom.Atom.{Atom}
use Rattle.erl_term.specs.declared.term.Term.{Term}
use Rattle.undo_journal.specs.declared.error.JournalError.{JournalError}
use Rattle.undo_journal.specs.declared.error.JournalError.TheVariants as error
use Rattle.process_effects.specs.declared.told.Reply.{Reply}
use Rattle.node_types.specs.Note.{Note}
use Rattle.node_types.specs.declared.event.Refusal.{Refusal}
use Rattle.node_history.specs.declared.command.Command.{Command}
use Rattle.node_history.specs.declared.command.Said.{Said}
use Rattle.node_history.specs.declared.entry.Line.{Line}
use Rattle.node_lock.specs.Core.{SeatState}
use Rattle.node_lock.specs.Seats.{Lists, ListsFault}
use Rattle.node_lock.specs.declared.error.LockError.{LockError}
use Rattle.node_lock.specs.declared.error.LockError.TheVariants as lock
use Rattle.workers.specs.Calling.{Calls, HasRead}
use Rattle.workers.specs.Installing.{Begins, Drives, HasAdvanced}
use Rattle.workers.specs.Lines.{HasGrown}
use Rattle.workers.specs.declared.installing.InstallEnd.{InstallEnd}
use Rattle.workers.proofs.Behind.{behind}

pub grown_not : (seat after : SeatState) → after ≡ seat → HasGrown seat after
grown_not seat after same =
    ([], same ∙ ap (λ (ls : List Line). let s : SeatState = record { number = seat.number; lines = ls } in s) (sym (append-nil seat.lines)))

pub grown_further : (old mid new : SeatState) → HasGrown old mid → HasGrown mid new → HasGrown old new
grown_further old mid new first then = (first.0 ++ then.0, behind old mid new first.0 then.0 first.1 then.1)

-- by a command that was not carried out
fault_grown : (c : Command) (e : JournalError Refusal Note) (seat after : SeatState) → ListsFault c e seat after → HasGrown seat after
fault_grown c (error.Step why) seat after lists = (_, lists.1)
fault_grown c error.Forgotten seat after lists = (_, lists.1)
fault_grown c error.DeadMark seat after lists = (_, lists.1)
fault_grown c error.SerialEnd seat after lists = (_, lists.1)
fault_grown c (error.Memory reached reports) seat after lists = (_, lists.line)

pub grown_by_error : (c : Command) (e : LockError) (seat after : SeatState) → Lists c (Err e) seat after → HasGrown seat after
grown_by_error c (lock.Journal e) seat after lists = fault_grown c e seat after lists
grown_by_error c lock.Memory seat after lists = grown_not seat after lists

-- by a command that was
pub grown_by_answer : (c : Command) (it : Said) (seat after : SeatState) → Lists c (Ok it) seat after → HasGrown seat after
grown_by_answer c it seat after lists = (_, lists.1)

-- by reads and advances
pub grown_by_reads : (number first from often : ℕ) (old now : SeatState) → HasRead number first from often old now → HasGrown old now
grown_by_reads number first from often old now has = (_, has.lines)

pub grown_by_advances : (patience left : ℕ) (old now : SeatState) → HasAdvanced patience left old now → HasGrown old now
grown_by_advances patience left old now has = (_, has.lines)

pub grown_by_begin : (vsn : List ℕ) (old now : SeatState) → Begins vsn old now → HasGrown old now
grown_by_begin vsn old now begins = (_, begins.1)

-- by a whole call, and by a whole install
pub grown_by_call : (name : Atom) (term : Term) (old new : SeatState) (reply : Reply) → Calls name term old new reply → HasGrown old new
grown_by_call name term old new reply calls = grown_further old calls.called new (_, calls.accepted) (_, calls.awaits.lines)

pub grown_by_install : (vsn : List ℕ) (patience : ℕ) (old new : SeatState) (end : InstallEnd) → Drives vsn patience old new end → HasGrown old new
grown_by_install vsn patience old new end drives = grown_further old drives.begun new (_, drives.begins.1) (_, drives.ends.lines)
