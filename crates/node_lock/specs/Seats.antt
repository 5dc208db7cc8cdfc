-- What a seat has of its commands, whatever other seats ask in between.
use Rattle.std.specs.Prelude.{◌≡◌, ℕ, ◌<◌, ⊤, List, [], ◌∷◌, Option, Result, Ok, Err}
use Rattle.erl_semantics.specs.declared.jobs.Job.{Job}
use Rattle.process_effects.specs.declared.told.Reply.{Reply}
use Rattle.release_statuses.specs.declared.listed.Listed.{Listed}
use Rattle.undo_journal.specs.declared.error.JournalError.{JournalError}
use Rattle.undo_journal.specs.declared.error.JournalError.TheVariants as error
use Rattle.undo_journal.specs.declared.report.Report.{Report}
use Rattle.node_types.specs.Note.{Note}
use Rattle.node_types.specs.declared.event.Answer.{Answer}
use Rattle.node_types.specs.declared.event.Refusal.{Refusal}
use Rattle.node_history.specs.declared.command.Command.{Command}
use Rattle.node_history.specs.declared.command.Command.TheVariants as command
use Rattle.node_history.specs.declared.command.Fault.{Fault}
use Rattle.node_history.specs.declared.command.Fault.TheVariants as fault
use Rattle.node_history.specs.declared.command.Said.{Said}
use Rattle.node_history.specs.declared.command.Said.TheVariants as said
use Rattle.node_lock.specs.Core.{AddsLine, SeatState}
use Rattle.node_lock.specs.declared.error.LockError.{LockError}
use Rattle.node_lock.specs.declared.error.LockError.TheVariants as lock

-- an answer is one to such a command
abbrev pub IsFor : Command → Said → Type 0
IsFor (command.Perform e) it = (answer : Answer) × (it ≡ said.Performed answer)
IsFor (command.Call name term) it = (number : ℕ) × (it ≡ said.Called number)
IsFor (command.TakeAny above) it = (job : Option Job) × (it ≡ said.Taken job)
IsFor command.Mark it = (mark : ℕ) × (it ≡ said.Marked mark)
IsFor (command.Undo mark) it = (report : Report Note) × (it ≡ said.Undone report)
IsFor (command.Forget mark) it = it ≡ said.Floored
IsFor (command.Retake pid) it = (job : Job) × (it ≡ said.Retaken job)
IsFor (command.Replies from) it = (replies : List Reply) × (it ≡ said.Replied replies)
IsFor command.Which it = (releases : List Listed) × (it ≡ said.Releases releases)

-- The faults of events, which the node refuses or for which no serial is left, and of marks, which have no station.

abbrev pub IsOfEvent : Fault → Type 0
IsOfEvent (fault.Refused why) = ⊤
IsOfEvent fault.Forgotten = ⊥
IsOfEvent fault.DeadMark = ⊥
IsOfEvent fault.SerialEnd = ⊤

abbrev pub IsOfMark : Fault → Type 0
IsOfMark (fault.Refused why) = ⊥
IsOfMark fault.Forgotten = ⊤
IsOfMark fault.DeadMark = ⊤
IsOfMark fault.SerialEnd = ⊥

-- a fault is one of such a command
abbrev pub IsFaultOf : Command → Fault → Type 0
IsFaultOf (command.Perform e) why = IsOfEvent why
IsFaultOf (command.Call name term) why = IsOfEvent why
IsFaultOf (command.TakeAny above) why = IsOfEvent why
IsFaultOf command.Mark why = ⊥
IsFaultOf (command.Undo mark) why = IsOfMark why
IsFaultOf (command.Forget mark) why = IsOfMark why
IsFaultOf (command.Retake pid) why = (refusal : Refusal) × (why ≡ fault.Refused refusal)
IsFaultOf (command.Replies from) why = ⊥
IsFaultOf command.Which why = ⊥

-- An undo that found no memory after it had cut stations: it's listed as the undo to the mark where it stands, with what it
-- has cut.
pub record ListsStop (c : Command) (reached : ℕ) (reports : List (Report Note)) (seat after : SeatState) : Type 0 where
  pub mark : ℕ
  pub undo : c ≡ command.Undo mark
  pub behind : mark < reached
  pub report : Report Note
  pub told : reports ≡ report ∷ []
  pub cut : 0 < report.cut
  pub line : AddsLine (command.Undo reached) (Ok (said.Undone report)) seat after

-- a command is listed with its fault
abbrev pub ListsFaultOf : Command → Fault → SeatState → SeatState → Type 0
ListsFaultOf c why seat after = IsFaultOf c why × AddsLine c (Err why) seat after

abbrev pub ListsFault : Command → JournalError Refusal Note → SeatState → SeatState → Type 0
ListsFault c (error.Step why) seat after = ListsFaultOf c (fault.Refused why) seat after
ListsFault c error.Forgotten seat after = ListsFaultOf c fault.Forgotten seat after
ListsFault c error.DeadMark seat after = ListsFaultOf c fault.DeadMark seat after
ListsFault c error.SerialEnd seat after = ListsFaultOf c fault.SerialEnd seat after
ListsFault c (error.Memory reached reports) seat after = ListsStop c reached reports.items seat after

-- What a command adds to its seat's list: itself with its answer, or why it's refused. Where memory is wanting it's
-- nothing, but for an undo that has stopped.
abbrev pub Lists : Command → Result Said LockError → SeatState → SeatState → Type 0
Lists c (Ok it) seat after = IsFor c it × AddsLine c (Ok it) seat after
Lists c (Err (lock.Journal e)) seat after = ListsFault c e seat after
Lists c (Err lock.Memory) seat after = after ≡ seat

-- an answer, as a list has it
abbrev pub said_by : {A : Type 0} → (A → Said) → Result A LockError → Result Said LockError
said_by say (Ok it) = Ok (say it)
said_by say (Err e) = Err e
