-- The script waits for a process that runs, and is advanced once more.
use Rattle.std.proofs.Common.{◌∙◌, sym}
use Rattle.upgrade_rehearsal.proofs.Waiting.{goes_waiting}
use Rattle.upgrade_rehearsal.proofs.jobs.go_on_with_jobs.Goals as goal

pub returns-in_ok-advance-in-Some-clause-run : goal.returns-in_ok-advance-in-Some-clause-run
returns-in_ok-advance-in-Some-clause-run c = goes_waiting _ _ _ _ _ _ (sym c.waiting_for.ensures ∙ c.in-Some.is) c.in_ok-first.ensures
    c.in_ok-advance-in-Some.ensures
