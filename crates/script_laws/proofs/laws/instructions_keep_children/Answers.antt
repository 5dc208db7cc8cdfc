-- By what each instruction does to children.
use Rattle.script_laws.proofs.Children.{instructions_keep_children}
use Rattle.script_laws.proofs.laws.instructions_keep_children.Goals as goal

pub returns : goal.returns
returns c = instructions_keep_children
