-- The leaves before the node are unmarked.
use Rattle.std.proofs.Common.{◌*◌, ◌-◌}
use Rattle.ready_set.proofs.Climbing.{IsClimbing}
use Rattle.ready_set.proofs.tree.climb.Given as goal

abbrev pub invariant-loop-node : goal.invariant-loop-node
invariant-loop-node l = IsClimbing l.marks l.leaf l.node l.end l.levels

abbrev pub decreases-loop-node : goal.decreases-loop-node
decreases-loop-node l = 2 * l.end - l.node
