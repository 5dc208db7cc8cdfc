-- The nodes from one on are mended.
use Rattle.std.proofs.Common.{◌≡◌, ◌<◌, ◌≤◌, ◌+◌, ◌*◌, ◌/◌, ℕ, length}
use Rattle.ready_set.specs.Marks.{IsMended, is_marked}
use Rattle.ready_set.proofs.tree.mend_all.Given as goal

abbrev pub invariant-loop-node : goal.invariant-loop-node
invariant-loop-node l = record {
  within : l.node ≤ length l.marks / 2;
  behind : (k : ℕ) → 0 < k → l.node ≤ k → 2 * k + 1 < length l.marks → IsMended l.marks k;
  leaves : (k : ℕ) → length l.marks ≤ 2 * k → is_marked l.marks k ≡ is_marked l.initial.marks k;
}

abbrev pub decreases-loop-node : goal.decreases-loop-node
decreases-loop-node l = l.node
