-- The rows of the table.
use Rattle.relup_make.proofs.InstructionRows.{table}
use Rattle.relup_make.proofs.laws.each_instruction_has_its_row.Goals as goal

pub returns : goal.returns
returns c = table
