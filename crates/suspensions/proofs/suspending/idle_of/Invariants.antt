-- Those so far, and those that are left.
use Rattle.std.proofs.Common.{◌≡◌, ◌++◌, drop, map}
use Rattle.std.specs.List.{filter}
use Rattle.process_store.specs.Table.{living}
use Rattle.suspensions.specs.Suspending.{is_idle}
use Rattle.suspensions.proofs.suspending.idle_of.Given as goal

abbrev pub invariant-loop-child : goal.invariant-loop-child
invariant-loop-child l = l.pids.items ++ filter (λ p. is_idle (living p l.processes)) (map (λ c. c.pid) (drop l.child-index l.children)) ≡ filter (λ p. is_idle (living p l.processes)) (map (λ c. c.pid) l.children)
