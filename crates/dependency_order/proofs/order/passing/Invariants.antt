use Rattle.std.proofs.Common.{◌≡◌, ◌<◌, ◌≤◌, ◌-◌, ℕ, true, length, get_or}
use Rattle.dependency_order.specs.Left.{is_passed}
use Rattle.dependency_order.proofs.order.passing.Given as goal

abbrev pub invariant-loop-to : goal.invariant-loop-to
invariant-loop-to l = record {
  on : l.from ≤ l.to;
  within : l.to ≤ length l.asked;
  passed : (i : ℕ) → l.from ≤ i → i < l.to → is_passed l.itself l.given (get_or l.held (get_or l.asked i 0) 0) (get_or l.asked i 0) ≡ true;
}

abbrev pub decreases-loop-to : goal.decreases-loop-to
decreases-loop-to l = length l.asked - l.to
