-- It holds at the points so far.
use Rattle.std.proofs.Common.{◌≡◌, ◌<◌, ◌≤◌, ℕ, true}
use Rattle.upgrade_review.specs.Calls.{holds_at}
use Rattle.upgrade_review.proofs.calls.end_of.Given as goal

abbrev pub invariant-loop-to : goal.invariant-loop-to
invariant-loop-to l = (i : ℕ) → l.from ≤ i → i < l.to → holds_at l.points i ≡ true
