use Rattle.std.proofs.Common.{◌≡◌, ◌<◌, ℕ}
use Rattle.dependency_order.specs.Forests.{IsFlatter, parent}
use Rattle.dependency_order.proofs.forest.flatten.Given as goal

abbrev pub invariant-loop-vertex : goal.invariant-loop-vertex
invariant-loop-vertex l = record {
  flatter : IsFlatter l.initial.parents l.parents;
  flat : (p : ℕ) → p < l.vertex → parent l.parents (parent l.parents p) ≡ parent l.parents p;
}
