-- What the seat asks in one holding of the node, and what is told of its answer.
use Rattle.std.specs.Prelude.{◌≡◌, ℕ, ◌<◌, List, [], ◌∷◌, ◌++◌, Option, None, Some, Ok, Err}
use Rattle.erl_term.specs.Tree.{Tree, list}
use Rattle.undo_journal.specs.declared.report.Report.{Report}
use Rattle.node_types.specs.Note.{Note}
use Rattle.node_types.specs.declared.event.Answer.{Answer}
use Rattle.node_history.specs.declared.command.Command.{Command}
use Rattle.node_history.specs.declared.command.Command.TheVariants as command
use Rattle.node_history.specs.declared.command.Fault.{Fault}
use Rattle.node_history.specs.declared.command.Said.{Said}
use Rattle.node_history.specs.declared.command.Said.TheVariants as said
use Rattle.node_history.specs.declared.entry.Line.{Line}
use Rattle.workers.specs.Core.{SeatState}
use Rattle.workers.specs.Seats.{IsFaultOf, IsFor}
use Rattle.release_statuses.specs.declared.listed.Listed.{Listed}
use Rattle.shell_answers.specs.Answers.{fixed, floor_at, line_of, mark_at, releases_in, replies_in, stopped_undo, undone_steps}
use Rattle.shell_answers.specs.Refusals.{Subject}
use Rattle.shell_answers.specs.declared.fixed.Fixed.TheVariants as words
use Rattle.shell_exec.specs.Fate.{Fate}
use Rattle.shell_exec.specs.Fate.TheVariants.{Refused, StoppedAt}
use Rattle.worker_lines.specs.Telling.{fault_told}
use Rattle.workers.specs.Lines.{line, with_lines}

-- Lines that may come behind those of the seat, and a text that may be told of them, did come, and was.
pub record IsAnswered (may : List Line → List ℕ → Type 0) (seat after : SeatState) (text appended : List ℕ) : Type 0 where
  pub lines : List Line
  pub answer : List ℕ
  pub may_be : may lines answer
  pub listed : after ≡ with_lines seat lines
  pub written : appended ≡ text ++ answer

-- Releases were told, of which the latest that was set unpacked is given first; or memory was refused.
abbrev pub IsWritten : List Listed → Option Fate → List ℕ → List ℕ → Type 0
IsWritten releases None text appended = appended ≡ text ++ line_of (list (releases_in releases))
IsWritten releases (Some Refused) text appended = appended ≡ text ++ line_of (fixed words.Memory)
IsWritten releases (Some (StoppedAt mark)) text appended = ⊥

-- One holding: the command is listed with its answer, which is told, or with why it's refused, and that is told. Where memory
-- was refused nothing is listed; but an undo that has cut stations is listed as the undo to the mark where it stands.
-- `unwritten`: the releases are listed, and no memory was left to make what is written of them.
pub data Holds (c : Command) (about : Subject) (tell : Said → Tree) : Option Fate → List Line → List ℕ → Type 0 where
  heard : (it : Said) → IsFor c it → Holds c about tell None (line c (Ok it) ∷ []) (line_of (tell it))
  refused : (why : Fault) → IsFaultOf c why → Holds c about tell None (line c (Err why) ∷ []) (line_of (fault_told about why))
  no_memory : Holds c about tell (Some Refused) [] (line_of (fixed words.Memory))
  stopped : (mark reached : ℕ) (report : Report Note) → c ≡ command.Undo mark → mark < reached → 0 < report.cut →
      Holds c about tell (Some (StoppedAt reached)) (line (command.Undo reached) (Ok (said.Undone report)) ∷ [])
      (line_of (stopped_undo reached report))
  unwritten : (it : Said) → c ≡ command.Which → IsFor c it →
      Holds c about tell (Some Refused) (line c (Ok it) ∷ []) (line_of (fixed words.Memory))

-- What is told of answers. A command has answers of its own kind alone.

abbrev pub mark_told : Said → Tree
mark_told (said.Marked mark) = mark_at mark
mark_told _ = fixed words.Done

abbrev pub replies_told : Said → Tree
replies_told (said.Replied replies) = list (replies_in replies)
replies_told _ = fixed words.Done

-- the latest that was set unpacked first, as it is listed
abbrev pub releases_told : Said → Tree
releases_told (said.Releases releases) = list (releases_in releases)
releases_told _ = fixed words.Done

abbrev pub undone_told : Said → Tree
undone_told (said.Undone report) = undone_steps report
undone_told _ = fixed words.Done

abbrev pub floor_told : ℕ → Said → Tree
floor_told mark _ = floor_at mark

-- of an event, by its answer
abbrev pub event_told : (Answer → Tree) → Said → Tree
event_told tell (said.Performed answer) = tell answer
event_told tell _ = fixed words.Done

-- that it's done
abbrev pub done : Answer → Tree
done answer = fixed words.Done
