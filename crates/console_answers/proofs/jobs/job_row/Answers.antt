-- By what stands against its commit.
use Rattle.std.proofs.Common.{sym, subst}
use Rattle.console_answers.specs.Rows.{IsJobRow, ready, stale}
use Rattle.console_answers.proofs.jobs.job_row.Goals as goal

pub returns-in_ok-row-in-None : goal.returns-in_ok-row-in-None
returns-in_ok-row-in-None c =
    subst (IsJobRow c.args.processes.now c.args.n c.args.job.now) (sym c.in_ok-row-in-None.ensures) (ready c.in-None.ensures)

pub returns-in_ok-row-in-Some : goal.returns-in_ok-row-in-Some
returns-in_ok-row-in-Some c =
    subst (IsJobRow c.args.processes.now c.args.n c.args.job.now) (sym c.in_ok-row-in-Some.ensures) (stale c.in-Some.field-0 c.in-Some.ensures)
