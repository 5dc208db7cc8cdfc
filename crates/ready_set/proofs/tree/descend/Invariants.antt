-- The node is marked, and the leaves below the root and before it are not.
use Rattle.ready_set.proofs.Descending.{IsDescending}
use Rattle.ready_set.proofs.tree.descend.Given as goal

abbrev pub invariant-loop-levels : goal.invariant-loop-levels
invariant-loop-levels l = IsDescending l.marks l.fn.root.levels l.fn.root.node l.levels l.node

abbrev pub decreases-loop-levels : goal.decreases-loop-levels
decreases-loop-levels l = l.levels
