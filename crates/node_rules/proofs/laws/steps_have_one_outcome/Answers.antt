-- By the outcome of each event.
use Rattle.node_rules.proofs.OneOutcome.{steps_have_one_outcome}
use Rattle.node_rules.proofs.laws.steps_have_one_outcome.Goals as goal

pub returns : goal.returns
returns c = steps_have_one_outcome
