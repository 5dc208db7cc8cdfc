-- What OTP's release handler does otherwise than this node, judged by an instruction that was executed here (release_handler(3);
-- appup(4), Low-Level Instructions; supervisor(3)).
use Rattle.std.specs.Prelude.{◌≡◌, ◌≤◌, ◌+◌, ℕ, Bool, true, false, not, List, [], Contains, codes, Option, None, Some, length}
use Rattle.std.specs.Str.{bytes_eq}
use Rattle.erl_term.specs.Term.{tree}
use Rattle.erl_term.specs.Tree.{Tree}
use Rattle.erl_term.specs.Tree as term
use Rattle.erl_term.specs.declared.term.Term.{Term}
use Rattle.low_instructions.specs.declared.low.Low.{Low}
use Rattle.low_instructions.specs.declared.low.Low.TheVariants.{LoadObjectCode, PointOfNoReturn, Load, Remove, Purge, Suspend}
use Rattle.low_instructions.specs.declared.low.Low.TheVariants.{Resume, CodeChange, Stop, Start, Apply}
use Rattle.low_instructions.specs.declared.modules.Direction.{Direction}
use Rattle.node_questions.specs.Shapes.{tag_of}
use Rattle.node_views.specs.Changes.{process_of}
use Rattle.node_views.specs.declared.node_view.NodeView.{NodeView}
use Rattle.node_views.specs.declared.process_view.ProcessView.{ProcessView}
use Rattle.rehearsals.specs.Ways.{is_carried_out}
use Rattle.rehearsals.specs.declared.observing.Observation.{Observation}
use Rattle.rehearsals.specs.declared.observing.Observation.TheVariants.{OrderOnOtp, PassedOverOnOtp, TemporaryOnOtp}
use Rattle.rehearsals.specs.declared.station.Outcome.{Outcome}
use Rattle.rehearsals.specs.declared.station.Outcome.TheVariants.{Ran, Finished, Recovered, Restarted, Refused}
use Rattle.rehearsals.specs.declared.station.Station.{Station}

-- A temporary child is stopped: its supervisor deletes its specification, and no `start` starts it again.
abbrev pub IsTemporary : Direction → ℕ → Station → Observation → Type 0
IsTemporary way i s o = (pid : ℕ) × Contains s.outlook.temporary pid × (o ≡ TemporaryOnOtp way i pid)

-- The reason for which an instruction has failed, if it has.
abbrev pub failure_of : Outcome → Option Term
failure_of Ran = None
failure_of Finished = None
failure_of (Recovered reason) = Some reason
failure_of (Restarted reason) = Some reason
failure_of (Refused why) = None

-- Whether a reason is that of an applied function that ended with an exit: `{'EXIT',R}`. The reason of a function that returned
-- `{error,{'EXIT',R}}` is the same.

abbrev pub is_exit_tag : Option (List ℕ) → Bool
is_exit_tag None = false
is_exit_tag (Some tag) = bytes_eq tag (codes "EXIT")

abbrev pub is_exit : Tree → Bool
is_exit (term.int n) = false
is_exit (term.atom a) = false
is_exit (term.pid p) = false
is_exit (term.tuple ts) = is_exit_tag (tag_of ts)
is_exit (term.list ts) = false

-- Whether OTP ignores that an instruction fails for this reason: it ignores each result of a `start`, and each value that the
-- function of an `apply` returns.
abbrev pub passes_over : Low → Term → Bool
passes_over (LoadObjectCode application version modules) reason = false
passes_over PointOfNoReturn reason = false
passes_over (Load name pre post) reason = false
passes_over (Remove name pre post) reason = false
passes_over (Purge modules) reason = false
passes_over (Suspend modules) reason = false
passes_over (Resume modules) reason = false
passes_over (CodeChange direction changes) reason = false
passes_over (Stop modules) reason = false
passes_over (Start modules) reason = true
passes_over (Apply name function arguments) reason = not (is_exit (tree reason))

abbrev pub is_passed_over : Option Low → Option Term → Bool
is_passed_over None why = false
is_passed_over (Some low) None = false
is_passed_over (Some low) (Some reason) = passes_over low reason

abbrev pub IsPassedOver : Direction → ℕ → Station → Observation → Type 0
IsPassedOver way i s o = (is_passed_over s.instruction (failure_of s.outcome) ≡ true) × (o ≡ PassedOverOnOtp way i)

-- An instruction that changes or starts children was executed, several children of one application name a module of it, and it
-- puts several messages into one mailbox. These may come in another order on OTP, which changes and starts children in another
-- order.

abbrev pub mailbox_of : Option ProcessView → List Term
mailbox_of None = []
mailbox_of (Some p) = p.mailbox

abbrev pub GetsSeveral : NodeView → NodeView → ℕ → Type 0
GetsSeveral before after pid = length (mailbox_of (process_of pid before)) + 2 ≤ length (mailbox_of (process_of pid after))

abbrev pub OneGetsSeveral : NodeView → NodeView → Type 0
OneGetsSeveral before after = (pid : ℕ) × GetsSeveral before after pid

abbrev pub HasSeveralMessages : NodeView → Station → Type 0
HasSeveralMessages before s = (is_carried_out s.outcome ≡ true) × OneGetsSeveral before s.behind

abbrev pub IsOrder : Direction → ℕ → NodeView → Station → Observation → Type 0
IsOrder way i before s o =
    HasSeveralMessages before s × ((m : List ℕ) × Contains s.outlook.several m × (o ≡ OrderOnOtp way i m))
