-- It goes back to where it was.
use Rattle.upgrade_rehearsal.proofs.Leading.{back_at}
use Rattle.upgrade_rehearsal.proofs.jobs.try_with_jobs.Goals as goal

pub returns-clause-back : goal.returns-clause-back
returns-clause-back c = back_at _ _ c.go_on_laden.new.player _ c.requires c.in_ok-tried.ensures.journal c.in_ok-undo.ensures.journal
    c.in_ok-undo.ensures.arrivals
