-- Those so far.
use Rattle.std.proofs.Common.{◌≡◌, ◌++◌, drop, map}
use Rattle.script_ends.proofs.finishing.to_resume.Given as goal

abbrev pub invariant-loop-pid : goal.invariant-loop-pid
invariant-loop-pid l = map (λ r. r.pid) l.resumed.items ++ drop l.pid-index l.suspended ≡ l.suspended
