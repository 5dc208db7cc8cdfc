-- What takes a step back holds only what the step has lost.
use Rattle.node_core.proofs.Kept.{of_record}
use Rattle.node_core.proofs.stations.record_at.Goals as goal

pub returns-clause-lost : goal.returns-clause-lost
returns-clause-lost c = of_record c.args.index c.args.journal.now c.record.result c.record.ensures.takes_back
