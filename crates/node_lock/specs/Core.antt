-- What a command of a seat does to the node that seats share, and to the seat's list.
use Rattle.std.specs.Prelude.{◌≡◌, ℕ, List, [], ◌∷◌, ◌++◌, Option, None, Result, Ok, Err}
use Rattle.release_boot.specs.Boot.{Boots}
use Rattle.release_statuses.specs.Statuses.{booted as booted_with}
use Rattle.release_table.specs.declared.table.Release.{Release}
use Rattle.undo_journal.specs.Timeline.{opened}
use Rattle.undo_journal.specs.declared.error.JournalError.{JournalError}
use Rattle.undo_journal.specs.declared.error.JournalError.TheVariants as error
use Rattle.undo_journal.specs.declared.report.Report.{Report}
use Rattle.node_commands.specs.Node.{NodeState}
use Rattle.node_types.specs.Note.{Note}
use Rattle.node_types.specs.declared.event.Refusal.{Refusal}
use Rattle.node_history.specs.History.{Gives, Legal, NodeTimeline}
use Rattle.node_history.specs.declared.command.Command.{Command}
use Rattle.node_history.specs.declared.command.Command.TheVariants as command
use Rattle.node_history.specs.declared.command.Fault.{Fault}
use Rattle.node_history.specs.declared.command.Fault.TheVariants as fault
use Rattle.node_history.specs.declared.command.Said.{Said}
use Rattle.node_history.specs.declared.command.Said.TheVariants as said
use Rattle.node_history.specs.declared.entry.Entry.{Entry}
use Rattle.node_history.specs.declared.entry.Line.{Line}
use Rattle.node_commands.specs.Telling.{Stops}
use Rattle.node_lock.specs.declared.error.LockError.{LockError}
use Rattle.node_lock.specs.declared.error.LockError.TheVariants as lock

-- The node that seats share: the node that it booted, what was done since, and the stations that it can go back to.
pub record CoreState : Type 0 where
  pub booted : NodeState
  pub history : List Entry
  pub timeline : NodeTimeline

-- A seat: its number, and what it keeps of its own entries.
pub record SeatState : Type 0 where
  pub number : ℕ
  pub lines : List Line

-- the node is one that this release boots
abbrev pub IsBooted : Release → NodeState → Type 0
IsBooted release n = Boots release n.modules n.processes n.apps × (n.releases ≡ booted_with release) ×
    (n.runner ≡ None)

-- The release has booted the node, and the history has led from that to where it stands.
pub record HasLegalHistory (release : Release) (c : CoreState) : Type 0 where
  pub booted : IsBooted release c.booted
  pub legal : Legal (opened c.booted) [] c.history c.timeline

-- what a seat keeps of an entry goes last in its list
abbrev pub AddsLine : Command → Result Said Fault → SeatState → SeatState → Type 0
AddsLine c answer seat after =
    after ≡ record { number = seat.number; lines = seat.lines ++ record { command = c; answer = answer } ∷ [] }

-- A command is answered as `Gives` says behind the history. The entry, with its note, goes last in the history, and
-- the line, without it, last in the seat's list.
pub record Adds (c : Command) (answer : Result Said Fault) (old : CoreState) (seat : SeatState) (new : CoreState)
    (after : SeatState) : Type 0 where
  pub note : Option Note
  pub gives : Gives old.timeline old.history seat.number c answer note new.timeline
  pub history : new.history ≡ old.history ++ record { seat = seat.number; command = c; answer = answer; note = note } ∷ []
  pub booted : new.booted ≡ old.booted
  pub line : AddsLine c answer seat after

-- It's entered as the undo to the mark where it stands.
pub record AddsStop (c : Command) (reached : ℕ) (reports : List (Report Note)) (old : CoreState) (seat : SeatState)
    (new : CoreState) (after : SeatState) : Type 0 where
  pub mark : ℕ
  pub undo : c ≡ command.Undo mark
  pub report : Report Note
  pub told : reports ≡ report ∷ []
  pub stops : Stops mark reached report old.timeline new.timeline
  pub adds : Adds (command.Undo reached) (Ok (said.Undone report)) old seat new after

abbrev pub Fails : Command → JournalError Refusal Note → CoreState → SeatState → CoreState → SeatState → Type 0
Fails c (error.Step why) old seat new after = Adds c (Err (fault.Refused why)) old seat new after
Fails c error.Forgotten old seat new after = Adds c (Err fault.Forgotten) old seat new after
Fails c error.DeadMark old seat new after = Adds c (Err fault.DeadMark) old seat new after
Fails c error.SerialEnd old seat new after = Adds c (Err fault.SerialEnd) old seat new after
Fails c (error.Memory reached reports) old seat new after = AddsStop c reached reports.items old seat new after

-- A command of a seat is entered with what it's answered. Where memory is wanting nothing is entered, and all is as
-- it was, but for an undo that has stopped.
abbrev pub Enters : Command → Result Said LockError → CoreState → SeatState → CoreState → SeatState → Type 0
Enters c (Ok it) old seat new after = Adds c (Ok it) old seat new after
Enters c (Err (lock.Journal e)) old seat new after = Fails c e old seat new after
Enters c (Err lock.Memory) old seat new after = (new ≡ old) × (after ≡ seat)
