-- The rows so far, and those of the processes that are left.
use Rattle.std.proofs.Common.{◌≡◌, ◌++◌, map}
use Rattle.console_answers.specs.Rows.{process_row, process_rows}
use Rattle.console_answers.proofs.processes.process_rows.Given as goal

abbrev pub invariant-loop-pid : goal.invariant-loop-pid
invariant-loop-pid l = l.rows.items ++ map (process_row l.apps) l.pid-iterator ≡ process_rows l.processes l.apps
