-- The names from here on, the last first.
use Rattle.std.proofs.Common.{◌≡◌, drop, map, reverse}
use Rattle.relup_make.proofs.suspending.resumed.Given as goal

abbrev pub invariant-loop-index : goal.invariant-loop-index
invariant-loop-index l = l.names.items ≡ map (λ s. s.name) (reverse (drop l.index l.suspended))
