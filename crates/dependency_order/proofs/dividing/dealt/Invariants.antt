use Rattle.std.proofs.Common.{take}
use Rattle.dependency_order.specs.Dealt.{AreDealt}
use Rattle.dependency_order.proofs.dividing.dealt.Given as goal

abbrev pub invariant-loop-vertex : goal.invariant-loop-vertex
invariant-loop-vertex l = AreDealt l.firsts (take l.vertex-index l.order) l.lists
