-- So many jobs run.
use Rattle.std.proofs.Common.{◌<◌, arith}
use Rattle.upgrade_rehearsal.proofs.Ways.{tried_with}
use Rattle.upgrade_rehearsal.proofs.jobs.go_on_laden.Goals as goal

pub returns-clause-tried : goal.returns-clause-tried
returns-clause-tried c =
    let some : 0 < c.in_ok-jobs.jobs = omega (arith, c.if-jobs-eq0.false) in
    tried_with _ _ _ _ _ _ c.in_ok-arrive_all.ensures c.in_ok-jobs.ensures c.in_ok-go_on_with_jobs.ensures.jobs some
    c.in_ok-go_on_with_jobs.ensures.run
