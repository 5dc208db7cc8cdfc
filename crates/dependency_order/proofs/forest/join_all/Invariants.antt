use Rattle.std.proofs.Common.{take}
use Rattle.dependency_order.specs.Forests.{AreJoining}
use Rattle.dependency_order.proofs.forest.join_all.Given as goal

abbrev pub invariant-loop-vertex : goal.invariant-loop-vertex
invariant-loop-vertex l = AreJoining l.initial.parents l.parents (take l.vertex-index l.vertices) l.with
