-- A result is accepted, or comes too late.
use Rattle.std.proofs.Common.{rules}
use Rattle.workers.proofs.MoreRounds.{works_in_time, works_late}
use Rattle.workers.proofs.serving.work.Goals as goal

pub returns-then-not-branch : goal.returns-then-not-branch
returns-then-not-branch g c =
    works_late c.args.job.now c.in_ok-done.done c.in_ok-commit.field-0 c.args.seat.now c.commit.new.seat (search rules) (search rules) (search rules)

pub returns : goal.returns
returns g c =
    works_in_time c.args.job.now c.in_ok-done.done c.in_ok-commit.field-0 c.args.seat.now c.commit.new.seat (search rules) (search rules) (search rules)
