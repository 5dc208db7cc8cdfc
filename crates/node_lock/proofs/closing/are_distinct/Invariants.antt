-- The seats that are left differ in number where all do.
use Rattle.std.proofs.Common.{◌↔◌, length}
use Rattle.node_lock.specs.Closing.{AreDistinct}
use Rattle.node_lock.proofs.closing.are_distinct.Given as goal

abbrev pub invariant-loop-first : goal.invariant-loop-first
invariant-loop-first g l = AreDistinct l.left ↔ AreDistinct l.seats

abbrev pub decreases-loop-first : goal.decreases-loop-first
decreases-loop-first g l = length l.left
