-- Each event has an outcome at each node that is kept: it is accepted or refused, so that lack of memory never stands in place
-- of a rule.
use Rattle.std.specs.Prelude.{Ok}
use Rattle.node_rules.specs.Node.{IsSoundNode, NodeState}
use Rattle.node_rules.specs.Scripts.{Outcome}
use Rattle.node_rules.specs.Step.{Step}
use Rattle.node_types.specs.Note.{Note}
use Rattle.node_types.specs.declared.event.Answer.{Answer}
use Rattle.node_types.specs.declared.event.Event.{Event}
use Rattle.release_statuses.specs.Statuses.{HasPermanent, booted}
use Rattle.release_table.specs.declared.table.Release.{Release}
use Rattle.undo_journal.specs.Reversible.{Accepted}

-- An event is accepted, or refused for a reason, at each node that keeps what every node keeps, one of whose releases is
-- permanent.
abbrev pub EachEventHasAnOutcome : Type 0
EachEventHasAnOutcome = (n : NodeState) (e : Event) → IsSoundNode n → HasPermanent n.releases → (r : Outcome) × Step n e r

-- One release at least is permanent where a node boots, and behind each event that is accepted where one was before.
pub record NodesKeepAPermanentRelease : Type 0 where
  pub boots : (r : Release) → HasPermanent (booted r)
  pub steps : (n : NodeState) (e : Event) (a : Accepted NodeState Answer Note) → Step n e (Ok a) → HasPermanent n.releases →
      HasPermanent a.node.releases
