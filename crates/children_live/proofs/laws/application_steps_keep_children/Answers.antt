-- What is stopped runs no more, and what starts is new.
use Rattle.children_live.proofs.Steps.{application_steps_keep_children}
use Rattle.children_live.proofs.laws.application_steps_keep_children.Goals as goal

pub returns : goal.returns
returns c = application_steps_keep_children
