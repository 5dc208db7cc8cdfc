-- Events that the journal does not perform.
use Rattle.std.proofs.Common.{◌≡◌, Result, Err}
use Rattle.undo_journal.specs.Journal.{PerformFails}
use Rattle.undo_journal.specs.declared.error.JournalError.{JournalError}
use Rattle.undo_journal.specs.declared.error.JournalError.TheVariants as error
use Rattle.node_core.specs.Step.{MayRunOut, Step}
use Rattle.node_types.specs.declared.event.Event.{Event}
use Rattle.node_types.specs.Note.{Note}
use Rattle.node_types.specs.declared.event.Refusal.{Refusal}
use Rattle.shell_steps.specs.Halts.{Halts, halt_by}
use Rattle.shell_steps.specs.State.{IsFull, ShellState, node_of}

-- an event that the journal refuses is not performed
pub failed : {X : Type 0} (s : ShellState) (e : Event) (r : Result X (JournalError Refusal Note)) (why : JournalError Refusal Note) → r ≡ Err why → (IsFull s → r ≡ Err error.SerialEnd) → PerformFails (Step (node_of s) e) (MayRunOut (node_of s) e) s.timeline why → Halts (halt_by why) s e
failed s e r (error.Step refusal) is at_end fails =
    ((λ full. let ends : r ≡ Err error.SerialEnd = at_end full in let never : ⊥ = cc in never), fails)
failed s e r error.SerialEnd is at_end fails = fails
failed s e r error.Forgotten is at_end fails = absurd fails
failed s e r error.DeadMark is at_end fails = absurd fails
failed s e r (error.Memory mark reports) is at_end fails =
    ((λ full. let ends : r ≡ Err error.SerialEnd = at_end full in let never : ⊥ = cc in never), fails.0)
