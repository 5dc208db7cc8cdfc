use Rattle.std.proofs.Common.{◌≡◌, ◌||◌, ℕ, nat_cmp, take}
use Rattle.std.specs.BTreeSet.{contains}
use Rattle.dependency_order.specs.Orders.{stands}
use Rattle.dependency_order.proofs.order.offer.Given as goal

abbrev pub invariant-loop-vertex : goal.invariant-loop-vertex
invariant-loop-vertex l =
    (p : ℕ) → contains nat_cmp l.free p ≡ (contains nat_cmp l.initial.free p || stands p (take l.vertex-index l.vertices))
