use Rattle.std.proofs.Common.{◌≡◌}
use Rattle.dependency_order.specs.Lists.{upto}
use Rattle.dependency_order.proofs.firsts.alone.Given as goal

abbrev pub invariant-loop-vertex : goal.invariant-loop-vertex
invariant-loop-vertex l = l.parents.items ≡ upto l.vertex
