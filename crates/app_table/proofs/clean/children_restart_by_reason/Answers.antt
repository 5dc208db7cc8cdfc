-- The rows of the table.
use Rattle.app_table.proofs.NormalEnds.{table}
use Rattle.app_table.proofs.clean.children_restart_by_reason.Goals as goal

pub returns : goal.returns
returns c = table
