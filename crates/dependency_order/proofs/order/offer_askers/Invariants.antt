use Rattle.std.proofs.Common.{take}
use Rattle.dependency_order.specs.Left.{AreOffered}
use Rattle.dependency_order.proofs.order.offer_askers.Given as goal

abbrev pub invariant-loop-module : goal.invariant-loop-module
invariant-loop-module l = AreOffered l.initial.free l.free l.held (take l.module-index l.given) l.askers
