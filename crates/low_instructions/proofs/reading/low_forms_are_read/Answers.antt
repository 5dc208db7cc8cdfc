-- The two halves of the law.
use Rattle.low_instructions.proofs.Forms.{table}
use Rattle.low_instructions.proofs.reading.low_forms_are_read.Goals as goal

pub returns : goal.returns
returns c = table
