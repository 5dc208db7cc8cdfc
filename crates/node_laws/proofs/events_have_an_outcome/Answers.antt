-- By the outcome of each.
use Rattle.node_laws.proofs.Events.{each_event_has_an_outcome}
use Rattle.node_laws.proofs.events_have_an_outcome.Goals as goal

pub returns : goal.returns
returns c = each_event_has_an_outcome
