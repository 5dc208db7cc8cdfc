-- What the journal tells of a command that it refuses, or has stopped at.
use Rattle.std.specs.Prelude.{◌≡◌, ℕ, ◌<◌, IsSome}
use Rattle.undo_journal.specs.Timeline.{cut_to}
use Rattle.undo_journal.specs.declared.error.JournalError.{JournalError}
use Rattle.undo_journal.specs.declared.error.JournalError.TheVariants as error
use Rattle.undo_journal.specs.declared.report.Report.{Report}
use Rattle.node_types.specs.Note.{Note}
use Rattle.node_types.specs.declared.event.Refusal.{Refusal}
use Rattle.node_history.specs.History.{NodeTimeline}
use Rattle.node_history.specs.declared.command.Fault.{Fault}
use Rattle.node_history.specs.declared.command.Fault.TheVariants as fault

-- why a command is refused, as the journal tells it
abbrev pub error_of : Fault → JournalError Refusal Note
error_of (fault.Refused why) = error.Step why
error_of fault.Forgotten = error.Forgotten
error_of fault.DeadMark = error.DeadMark
error_of fault.SerialEnd = error.SerialEnd

-- An undo to a mark that has a station has found no memory after it had cut stations. It stands at a mark behind its
-- own, and tells what it has cut; called again it has the end that it had.
pub record Stops (mark reached : ℕ) (report : Report Note) (t after : NodeTimeline) : Type 0 where
  pub alive : IsSome (cut_to mark t)
  pub behind : mark < reached
  pub cut : 0 < report.cut
  pub same_end : cut_to mark after ≡ cut_to mark t
