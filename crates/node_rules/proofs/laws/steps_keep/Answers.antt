-- By what each event does to a node.
use Rattle.node_rules.proofs.Steps.{steps_keep}
use Rattle.node_rules.proofs.laws.steps_keep.Goals as goal

pub returns : goal.returns
returns c = steps_keep
