-- A row for each so far.
use Rattle.std.proofs.Common.{take}
use Rattle.console_answers.specs.Rows.{AreJobRows}
use Rattle.console_answers.proofs.jobs.job_rows.Given as goal

abbrev pub invariant-loop-index : goal.invariant-loop-index
invariant-loop-index l = AreJobRows l.processes 1 (take l.index l.jobs) l.rows.items
