-- Those so far, and those that are left.
use Rattle.std.proofs.Common.{◌≡◌, ◌++◌, drop}
use Rattle.suspensions.specs.Suspending.{still_suspended}
use Rattle.suspensions.proofs.suspending.still_suspended.Given as goal

abbrev pub invariant-loop-pid : goal.invariant-loop-pid
invariant-loop-pid l = l.left.items ++ still_suspended l.modules (drop l.pid-index l.suspended) l.apps l.processes ≡ still_suspended l.modules l.suspended l.apps l.processes
