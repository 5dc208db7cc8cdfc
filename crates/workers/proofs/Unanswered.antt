-- A call that is not answered.
use Rattle.std.proofs.Common.{◌≡◌, ℕ, ◌+◌, List, None, Some, Ok, Err, sym, subst}
use Rattle.erl_term.specs.declared.atom.Atom.{Atom}
use Rattle.erl_term.specs.declared.term.Term.{Term}
use Rattle.undo_journal.specs.declared.error.JournalError.{JournalError}
use Rattle.undo_journal.specs.declared.error.JournalError.TheVariants as error
use Rattle.process_effects.specs.declared.told.Reply.{Reply}
use Rattle.node_types.specs.Note.{Note}
use Rattle.node_types.specs.declared.event.Refusal.{Refusal}
use Rattle.node_history.specs.declared.command.Command.{Command}
use Rattle.node_history.specs.declared.command.Command.TheVariants as command
use Rattle.node_history.specs.declared.command.Said.TheVariants as said
use Rattle.node_lock.specs.Core.{SeatState}
use Rattle.node_lock.specs.Seats.{Lists, ListsFault}
use Rattle.node_lock.specs.declared.error.LockError.{LockError}
use Rattle.node_lock.specs.declared.error.LockError.TheVariants as lock
use Rattle.workers.specs.Calling.{CallFails, HasRead, LookFails, Looks, WaitFails, cut_short, in_vain, lost, not_called, not_copied, not_counted, not_read, reads_of, refused, unanswered, uncopied, unread}
use Rattle.workers.specs.Errors.{error_of}
use Rattle.workers.specs.Lines.{HasGrown}
use Rattle.workers.specs.declared.error.WorkError.{WorkError}
use Rattle.workers.specs.declared.error.WorkError.TheVariants as work
use Rattle.workers.proofs.Growth.{grown_by_call, grown_by_error, grown_by_reads, grown_further, grown_not}
use Rattle.workers.proofs.MoreReads.{calls, reads_more, reads_reply}

-- a read is no undo, so it's not refused
abbrev IsRead : Command → Type 0
IsRead (command.Replies from) = Unit {0}
IsRead _ = ⊥

read-unrefused : (from : ℕ) (e : JournalError Refusal Note) (old new : SeatState) → ListsFault (command.Replies from) e old new → ⊥
read-unrefused from (error.Step why) old new lists = lists.0
read-unrefused from error.Forgotten old new lists = lists.0
read-unrefused from error.DeadMark old new lists = lists.0
read-unrefused from error.SerialEnd old new lists = lists.0
read-unrefused from (error.Memory reached reports) old new lists = subst IsRead lists.undo tt

refused-read : (number from : ℕ) (why : LockError) (old new : SeatState) → Lists (command.Replies from) (Err why) old new → LookFails number from old new (error_of why)
refused-read number from (lock.Journal e) old new lists = absurd (read-unrefused from e old new lists)
refused-read number from lock.Memory old new lists = not_read lists

pub look_refused : (number from : ℕ) (why : LockError) (e : WorkError) (old new : SeatState) → e ≡ error_of why → Lists (command.Replies from) (Err why) old new → LookFails number from old new e
look_refused number from why e old new is lists = subst (λ w. LookFails number from old new w) (sym is) (refused-read number from why old new lists)

pub look_uncounted : (number from next : ℕ) (e : WorkError) (old new : SeatState) → e ≡ work.Memory → Looks number from next None old new → LookFails number from old new e
look_uncounted number from next e old new is looks = subst (λ w. LookFails number from old new w) (sym is) (not_counted next looks)

pub look_uncopied : (number from next : ℕ) (reply : Reply) (e : WorkError) (old new : SeatState) → e ≡ work.Memory → Looks number from next (Some reply) old new → LookFails number from old new e
look_uncopied number from next reply e old new is looks = subst (λ w. LookFails number from old new w) (sym is) (not_copied next reply looks)

-- no read had the reply, or it was lost
pub waits_unread : (number first from often waits : ℕ) (e : WorkError) (old mid new : SeatState) → HasRead number first from often old mid → LookFails number from mid new e → WaitFails number first waits old new e
waits_unread number first from often waits e old mid new has (not_read same) =
    cut_short from often (subst (λ (s : SeatState). HasRead number first from often old s) (sym same) has)
waits_unread number first from often waits e old mid new has (not_counted next looks) =
    cut_short next (often + 1) (reads_more number first from next often old mid new has looks)
waits_unread number first from often waits e old mid new has (not_copied next reply looks) =
    lost reply (reads_reply number first from next often reply old mid new has looks)

pub waits_in_vain : (number first from waits : ℕ) (old now : SeatState) → HasRead number first from (reads_of waits) old now → WaitFails number first waits old now work.NoReply
waits_in_vain number first from waits old now has = in_vain from has

-- the call is refused, or has no reply
refused-call : (name : Atom) (term : Term) (waits : ℕ) (why : LockError) (old new : SeatState) → Lists (command.Call name term) (Err why) old new → CallFails name term waits old new (error_of why)
refused-call name term waits (lock.Journal e) old new lists = refused e lists
refused-call name term waits lock.Memory old new lists = not_called lists

pub call_refused : (name : Atom) (term : Term) (waits : ℕ) (why : LockError) (e : WorkError) (old new : SeatState) → e ≡ error_of why → Lists (command.Call name term) (Err why) old new → CallFails name term waits old new e
call_refused name term waits why e old new is lists =
    subst (λ w. CallFails name term waits old new w) (sym is) (refused-call name term waits why old new lists)

pub call_unanswered : (name : Atom) (term : Term) (number from waits : ℕ) (e : WorkError) (old called new : SeatState) → Lists (command.Call name term) (Ok (said.Called number)) old called → WaitFails number from waits called new e → CallFails name term waits old new e
call_unanswered name term number from waits e old called new lists (in_vain next has) = unanswered number from next called lists.1 has
call_unanswered name term number from waits e old called new lists (cut_short next often has) =
    unread number from next often called lists.1 has
call_unanswered name term number from waits e old called new lists (lost reply awaits) =
    uncopied reply (calls name term number from old called new reply lists awaits)

-- in each case the seat's list only grows
pub grown_unanswered : (name : Atom) (term : Term) (waits : ℕ) (e : WorkError) (old new : SeatState) → CallFails name term waits old new e → HasGrown old new
grown_unanswered name term waits e old new (refused it lists) = grown_by_error (command.Call name term) (lock.Journal it) old new lists
grown_unanswered name term waits e old new (unanswered number from next called is has) =
    grown_further old called new (_, is) (grown_by_reads number from next (reads_of waits) called new has)
grown_unanswered name term waits e old new (unread number from next often called is has) =
    grown_further old called new (_, is) (grown_by_reads number from next often called new has)
grown_unanswered name term waits e old new (uncopied reply does) = grown_by_call name term old new reply does
grown_unanswered name term waits e old new (not_called same) = grown_not old new same

pub ruleset look_fails = (look_refused, look_uncounted, look_uncopied)

pub ruleset wait_fails = (waits_unread, waits_in_vain)

pub ruleset call_fails = (call_refused, call_unanswered)
