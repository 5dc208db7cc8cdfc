-- The release was read, and its node is attended to.
use Rattle.std.proofs.Common.{arith}
use Rattle.worker_shell.proofs.Attended.{attended, unattended}
use Rattle.worker_shell.proofs.running.run_gated.Goals as goal

pub returns-clause-ran : goal.returns-clause-ran
returns-clause-ran g c =
    attended c.args.files c.args.vsn.now c.args.workers c.in-Ok.release _ _ _ _ c.attend.result (omega arith) (omega arith) c.in-Ok.ensures c.attend.ensures.ok

pub returns-clause-failed : goal.returns-clause-failed
returns-clause-failed g c =
    unattended c.args.files c.args.vsn.now c.args.workers c.in-Ok.release _ _ _ _ c.attend.result (omega arith) (omega arith) c.in-Ok.ensures c.attend.ensures.err
