-- None for the modules so far.
use Rattle.std.proofs.Common.{◌≡◌, drop}
use Rattle.suspensions.specs.Suspending.{first_busy, names}
use Rattle.suspensions.proofs.busy.first_busy.Given as goal

abbrev pub invariant-loop-module : goal.invariant-loop-module
invariant-loop-module l = first_busy (names l.modules) l.apps l.processes ≡ first_busy (names (drop l.module-index l.modules)) l.apps l.processes
