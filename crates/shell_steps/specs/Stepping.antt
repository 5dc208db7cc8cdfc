-- What a step of the node does to the shell.
use Rattle.std.specs.Prelude.{◌≡◌, Ok}
use Rattle.undo_journal.specs.Reversible.{Accepted, told_of}
use Rattle.undo_journal.specs.Timeline.{appended}
use Rattle.undo_journal.specs.declared.reversible.Told.{Told}
use Rattle.node_core.specs.Node.{NodeState}
use Rattle.node_core.specs.Step.{Step}
use Rattle.node_types.specs.declared.event.Answer.{Answer}
use Rattle.node_types.specs.declared.event.Event.{Event}
use Rattle.node_types.specs.Note.{Note}
use Rattle.shell_steps.specs.State.{IsFull, NodeTimeline, ShellState, node_of, stepped}

-- The rule accepts an event, this tells of it, and the journal is the one behind it.
pub record IsTold (told : Told Answer Note) (s : ShellState) (e : Event) (new : NodeTimeline) : Type 0 where
  pub room : IsFull s → ⊥
  pub accepted : Accepted NodeState Answer Note
  pub rule : Step (node_of s) e (Ok accepted)
  pub is : told ≡ told_of accepted
  pub after : new ≡ appended s.timeline accepted.node accepted.note

-- The rule accepts an event, which is answered so, and the shell is the one behind it.
pub record IsStepped (told : Answer) (old : ShellState) (e : Event) (new : ShellState) : Type 0 where
  pub room : IsFull old → ⊥
  pub accepted : Accepted NodeState Answer Note
  pub rule : Step (node_of old) e (Ok accepted)
  pub answer : told ≡ accepted.answer
  pub after : new ≡ stepped accepted old
