-- Which codes are current so far, and the list of the points so far.
use Rattle.std.proofs.Common.{◌≡◌, ◌+◌, ◌≤◌, ℕ, length, take}
use Rattle.upgrade_review.specs.Calls.{current_by, holds_at, is_unanswered}
use Rattle.upgrade_review.specs.declared.calls.Current.TheVariants.{Left}
use Rattle.upgrade_review.proofs.calls.unanswered_points.Given as goal

abbrev pub invariant-loop-low : goal.invariant-loop-low
invariant-loop-low l = record {
  caller_at : l.caller_code ≡ current_by l.caller Left (take l.low-index l.script);
  called_at : l.called_code ≡ current_by l.call.«module» Left (take l.low-index l.script);
  within : l.low-index ≤ length l.script;
  count : length l.points.items ≡ l.low-index + 1;
  points : (i : ℕ) → i ≤ l.low-index → holds_at l.points.items i ≡
      is_unanswered l.fn.passage.left.now l.fn.passage.installed.now l.caller l.call (take i l.script);
}
