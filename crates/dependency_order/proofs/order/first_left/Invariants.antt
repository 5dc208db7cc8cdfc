use Rattle.std.proofs.Common.{◌≡◌, ◌<◌, ◌≤◌, ◌-◌, ℕ, false, length}
use Rattle.dependency_order.specs.Left.{is_left}
use Rattle.dependency_order.proofs.order.first_left.Given as goal

abbrev pub invariant-loop-first : goal.invariant-loop-first
invariant-loop-first l = record {
  on : l.from ≤ l.first;
  before : (p : ℕ) → l.from ≤ p → p < l.first → is_left l.left p ≡ false;
}

abbrev pub decreases-loop-first : goal.decreases-loop-first
decreases-loop-first l = length l.left - l.first
