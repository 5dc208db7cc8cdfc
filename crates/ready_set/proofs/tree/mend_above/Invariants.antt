-- All nodes above the leaves are mended, but perhaps one.
use Rattle.std.proofs.Common.{◌≡◌, ◌<◌, ◌≤◌, ◌+◌, ◌*◌, ℕ, length}
use Rattle.ready_set.specs.Marks.{IsMended, is_marked}
use Rattle.ready_set.proofs.tree.mend_above.Given as goal

abbrev pub invariant-loop-node : goal.invariant-loop-node
invariant-loop-node l = record {
  within : 0 < l.node → 2 * l.node + 1 < length l.marks;
  others : (k : ℕ) → 0 < k → 2 * k + 1 < length l.marks → (k ≡ l.node → ⊥) → IsMended l.marks k;
  leaves : (k : ℕ) → length l.marks ≤ 2 * k → is_marked l.marks k ≡ is_marked l.initial.marks k;
}

abbrev pub decreases-loop-node : goal.decreases-loop-node
decreases-loop-node l = l.node
