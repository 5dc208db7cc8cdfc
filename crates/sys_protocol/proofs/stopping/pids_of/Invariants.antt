-- The pids so far, and those that are left.
use Rattle.std.proofs.Common.{◌≡◌, ◌++◌, drop, map}
use Rattle.sys_protocol.proofs.stopping.pids_of.Given as goal

abbrev pub invariant-loop-child : goal.invariant-loop-child
invariant-loop-child l = l.pids.items ++ map (λ c. c.pid) (drop l.child-index l.children) ≡ map (λ c. c.pid) l.children
