-- The list of the points so far.
use Rattle.std.proofs.Common.{◌≡◌, ◌<◌, ◌≤◌, ◌&&◌, not, ℕ, length}
use Rattle.upgrade_review.specs.Calls.{holds_at, is_idle}
use Rattle.upgrade_review.proofs.calls.unless_idle.Given as goal

abbrev pub invariant-loop-point : goal.invariant-loop-point
invariant-loop-point l = record {
  within : l.point ≤ length l.points;
  count : length l.found.items ≡ l.point;
  points : (i : ℕ) → i < l.point → holds_at l.found.items i ≡
      (holds_at l.points i && not (is_idle l.caller.application l.caller.name l.script i));
}
