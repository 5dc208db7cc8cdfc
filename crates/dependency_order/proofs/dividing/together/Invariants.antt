use Rattle.std.proofs.Common.{◌≡◌, map, take}
use Rattle.dependency_order.specs.Dealt.{group_of}
use Rattle.dependency_order.specs.Groups.{leaders}
use Rattle.dependency_order.proofs.dividing.together.Given as goal

abbrev pub invariant-loop-vertex : goal.invariant-loop-vertex
invariant-loop-vertex l = l.groups.items ≡ map (group_of l.dependencies_first l.dependants_first) (leaders (take l.vertex l.firsts))
