use Rattle.std.proofs.Common.{◌≡◌, map, length, take}
use Rattle.dependency_order.proofs.order.lengths.Given as goal

abbrev pub invariant-loop-k : goal.invariant-loop-k
invariant-loop-k l = l.lengths.items ≡ map length (take l.k l.lists)
