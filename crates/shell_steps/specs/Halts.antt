-- Why something isn't done that the node is asked for, and what is told of it.
use Rattle.std.specs.Prelude.{◌≡◌, Option, None, Some, Err}
use Rattle.erl_semantics.specs.declared.jobs.Job.{Job}
use Rattle.erl_term.specs.Tree.{Tree}
use Rattle.process_table.specs.Commit.{CanCommit, RefusesCommit}
use Rattle.process_table.specs.declared.error.ProcError.{ProcError}
use Rattle.undo_journal.specs.declared.error.JournalError.{JournalError}
use Rattle.undo_journal.specs.declared.error.JournalError.TheVariants as error
use Rattle.node_core.specs.Step.{MayRunOut, Step}
use Rattle.node_types.specs.declared.event.Event.{Event}
use Rattle.node_types.specs.Note.{Note}
use Rattle.node_types.specs.declared.event.Refusal.{Refusal}
use Rattle.node_types.specs.declared.event.Refusal.TheVariants.{OfProcesses}
use Rattle.shell_answers.specs.Answers.{fixed}
use Rattle.shell_answers.specs.Refusals.{Subject, refusal_of}
use Rattle.shell_answers.specs.declared.fixed.Fixed.TheVariants as words
use Rattle.shell_steps.specs.State.{IsFull, ShellState, node_of}
use Rattle.shell_steps.specs.declared.fate.Fate.{Fate}
use Rattle.shell_steps.specs.declared.fate.Fate.TheVariants as fates
use Rattle.shell_steps.specs.declared.stepping.Halt.{Halt}
use Rattle.shell_steps.specs.declared.stepping.Halt.TheVariants.{Full, Refused, Memory}

-- Why: no serial is left; or a refusal; or memory is wanting, where nothing else stands against it.
abbrev pub HaltsBy : (Refusal → Type 0) → Type 0 → Halt → ShellState → Type 0
HaltsBy Refuses MayRun Full s = IsFull s
HaltsBy Refuses MayRun (Refused why) s = (IsFull s → ⊥) × Refuses why
HaltsBy Refuses MayRun Memory s = (IsFull s → ⊥) × MayRun

-- of an event
abbrev pub Halts : Halt → ShellState → Event → Type 0
Halts halt s e = HaltsBy (λ why. Step (node_of s) e (Err why)) (MayRunOut (node_of s) e) halt s

-- by the journal's error; no event has a mark
abbrev pub halt_by : JournalError Refusal Note → Halt
halt_by (error.Step why) = Refused why
halt_by error.SerialEnd = Full
halt_by error.Forgotten = Memory
halt_by error.DeadMark = Memory
halt_by (error.Memory mark reports) = Memory

-- of the result of a job, whatever it gives
abbrev pub RefusesResult : ShellState → Job → Refusal → Type 0
RefusesResult s job why =
    (it : ProcError) × RefusesCommit it job (node_of s).processes × (why ≡ OfProcesses it)

abbrev pub MayCommit : ShellState → Job → Type 0
MayCommit s job = CanCommit job (node_of s).processes

-- What is told.

-- of this, which a refusal names
abbrev pub halt_answer : Subject → Halt → Tree
halt_answer about Full = fixed words.SerialEnd
halt_answer about (Refused why) = refusal_of about why
halt_answer about Memory = fixed words.Memory

-- what became of an event that was not performed
abbrev pub halt_fate : Halt → Option Fate
halt_fate Full = None
halt_fate (Refused why) = None
halt_fate Memory = Some fates.Refused
