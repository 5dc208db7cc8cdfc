use Rattle.std.proofs.Common.{◌≡◌, ◌<◌, ◌≤◌, ℕ, Bool, length}
use Rattle.dependency_order.specs.Groups.{IsJoined}
use Rattle.dependency_order.specs.Forests.{IsFlatter, JoinsOnlyJoined, Respects}
use Rattle.dependency_order.proofs.forest.root.Given as goal

abbrev pub invariant-loop-parents : goal.invariant-loop-parents
invariant-loop-parents l = record {
  flatter : IsFlatter l.initial.parents l.parents;
  before : l.at ≤ l.vertex;
  known : l.at < length l.parents;
  joined : (names : ℕ → ℕ → Bool) → JoinsOnlyJoined names l.initial.parents → IsJoined names l.vertex l.at;
  one : (label : ℕ → ℕ) → Respects label l.parents → label l.vertex ≡ label l.at;
}

abbrev pub decreases-loop-parents : goal.decreases-loop-parents
decreases-loop-parents l = l.at
