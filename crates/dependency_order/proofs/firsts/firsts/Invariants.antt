use Rattle.std.proofs.Common.{length}
use Rattle.dependency_order.specs.Forests.{AreTrees}
use Rattle.dependency_order.proofs.firsts.firsts.Given as goal

abbrev pub invariant-loop-m : goal.invariant-loop-m
invariant-loop-m l = AreTrees l.on l.namers (length l.on) l.m l.parents.items
