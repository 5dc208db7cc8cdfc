-- The child that a process was runs no more.
use Rattle.children_live.proofs.Steps.{ends_keep_children}
use Rattle.children_live.proofs.laws.ends_keep_children.Goals as goal

pub returns : goal.returns
returns c = ends_keep_children
