-- From the laws of the two levels.
use Rattle.instructions.proofs.Instructions.{table}
use Rattle.instructions.proofs.reading.instruction_forms_are_read.Goals as goal

pub returns : goal.returns
returns c = table c.high_forms_are_read.ensures c.low_forms_are_read.ensures
