use Rattle.std.proofs.Common.{length}
use Rattle.dependency_order.specs.Lists.{AreEntered, is_on}
use Rattle.dependency_order.proofs.relation.on.Given as goal

abbrev pub invariant-loop-p : goal.invariant-loop-p
invariant-loop-p l = AreEntered (is_on l.vertices) (length l.vertices) l.p l.on
