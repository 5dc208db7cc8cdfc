-- Those so far, and those that are left.
use Rattle.std.proofs.Common.{◌≡◌, ◌++◌, drop, map}
use Rattle.suspensions.specs.Suspending.{to_resume}
use Rattle.suspensions.proofs.suspending.to_resume.Given as goal

abbrev pub invariant-loop-pid : goal.invariant-loop-pid
invariant-loop-pid l = map (λ r. r.pid) l.resumed.items ++ to_resume l.modules (drop l.pid-index l.suspended) l.apps l.processes ≡ to_resume l.modules l.suspended l.apps l.processes
