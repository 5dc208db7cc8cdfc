-- The two halves of the law.
use Rattle.child_specs.proofs.Forms.{table}
use Rattle.child_specs.proofs.reading.supervisions_are_read.Goals as goal

pub returns : goal.returns
returns c = table
