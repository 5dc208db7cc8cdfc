-- The rows so far, and those that are left.
use Rattle.std.proofs.Common.{◌≡◌, ◌++◌, drop}
use Rattle.console_answers.specs.Journal.{step_rows}
use Rattle.console_answers.proofs.journal.step_rows.Given as goal

abbrev pub invariant-loop-step : goal.invariant-loop-step
invariant-loop-step l = l.rows.items ++ step_rows l.after l.marks (drop l.step-index l.steps) ≡ step_rows l.after l.marks l.steps
