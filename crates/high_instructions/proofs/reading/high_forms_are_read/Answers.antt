-- The two halves of the law.
use Rattle.high_instructions.proofs.Forms.{table}
use Rattle.high_instructions.proofs.reading.high_forms_are_read.Goals as goal

pub returns : goal.returns
returns c = table
