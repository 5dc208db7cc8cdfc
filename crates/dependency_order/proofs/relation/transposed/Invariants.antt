use Rattle.std.proofs.Common.{length}
use Rattle.dependency_order.specs.Lists.{AreEntered, row}
use Rattle.dependency_order.specs.Orders.{stands}
use Rattle.dependency_order.proofs.relation.transposed.Given as goal

abbrev pub invariant-loop-p : goal.invariant-loop-p
invariant-loop-p l = AreEntered (λ p k. stands k (row l.lists p)) (length l.lists) l.p l.back
