-- The rows of the table.
use Rattle.sys_protocol.proofs.StartValues.{table}
use Rattle.sys_protocol.proofs.laws.start_values_are_read.Goals as goal

pub returns : goal.returns
returns c = table
