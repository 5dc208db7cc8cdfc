use Rattle.std.proofs.Common.{length}
use Rattle.dependency_order.specs.Lists.{AreEntered, is_named}
use Rattle.dependency_order.proofs.relation.namers.Given as goal

abbrev pub invariant-loop-p : goal.invariant-loop-p
invariant-loop-p l = AreEntered (is_named l.vertices) (length l.vertices) l.p l.namers
