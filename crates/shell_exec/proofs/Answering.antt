-- What is done of an event is what each command says of it.
use Rattle.std.proofs.Common.{◌≡◌, ℕ, List, refl}
use Rattle.erl_term.specs.declared.term.Term.{Term}
use Rattle.shell_upgrades.specs.Node.{NodeState}
use Rattle.node_types.specs.Note.{Note}
use Rattle.node_types.specs.declared.event.Answer.{Answer}
use Rattle.shell_exec.specs.Execution.{arrival_answer, change_event, event_of_arrival}
use Rattle.shell_upgrades.specs.Performing.{done_by, truth_in}
use Rattle.shell_upgrades.specs.State.{Effect, ShellState, carried, stepped}
use Rattle.shell_requests.specs.declared.request.ArrivalKind.{ArrivalKind}
use Rattle.shell_requests.specs.declared.request.ArrivalKind.TheVariants as arrivals
use Rattle.shell_requests.specs.declared.request.CodeOperation.{CodeOperation}
use Rattle.shell_requests.specs.declared.request.CodeOperation.TheVariants as changes
use Rattle.undo_journal.specs.Reversible.{Accepted}

-- of a change, and of an arrival
abbrev pub of_change : ShellState → CodeOperation → List ℕ → Accepted NodeState Answer Note → Effect
of_change s kind name a = carried (stepped a s) (change_event kind name) (truth_in a.answer)

abbrev pub of_arrival : ShellState → ArrivalKind → ℕ → List ℕ → Term → Accepted NodeState Answer Note → Effect
of_arrival s kind number name t a = carried (stepped a s) (event_of_arrival kind number name t) (arrival_answer kind number)

pub change_done : (s : ShellState) (kind : CodeOperation) (name : List ℕ) → of_change s kind name ≡ done_by s (change_event kind name)
change_done s changes.Delete name = refl
change_done s changes.Purge name = refl
change_done s changes.SoftPurge name = refl

pub arrival_done : (s : ShellState) (kind : ArrivalKind) (number : ℕ) (name : List ℕ) (t : Term) →
    of_arrival s kind number name t ≡ done_by s (event_of_arrival kind number name t)
arrival_done s arrivals.Call number name t = refl
arrival_done s arrivals.Cast number name t = refl
arrival_done s arrivals.Info number name t = refl
