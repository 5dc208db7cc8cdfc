-- Nobody ends.
use Rattle.children_live.proofs.Steps.{process_steps_keep_children}
use Rattle.children_live.proofs.laws.process_steps_keep_children.Goals as goal

pub returns : goal.returns
returns c = process_steps_keep_children
