-- The names so far, and those that are left.
use Rattle.std.proofs.Common.{◌≡◌, ◌++◌, drop}
use Rattle.suspensions.specs.Suspending.{names}
use Rattle.suspensions.proofs.suspending.names_of.Given as goal

abbrev pub invariant-loop-module : goal.invariant-loop-module
invariant-loop-module l = l.names.items ++ names (drop l.module-index l.modules) ≡ names l.modules
