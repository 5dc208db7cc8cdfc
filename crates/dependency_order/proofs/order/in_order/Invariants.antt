use Rattle.std.proofs.Common.{◌≡◌, length}
use Rattle.dependency_order.specs.Left.{IsBegun, Knows, waits_by}
use Rattle.dependency_order.specs.Orders.{how_many}
use Rattle.dependency_order.proofs.order.in_order.Given as goal

abbrev pub invariant-loop-vertex : goal.invariant-loop-vertex
invariant-loop-vertex l = record {
  known : Knows l.asks.modules l.gives.modules (length l.asks.modules) (length l.asks.modules) l.left;
  itself : l.left.itself ≡ l.itself;
  begun : IsBegun (waits_by l.asks.modules l.gives.modules l.itself) (length l.asks.modules) l.left.left.items l.order.items;
}

abbrev pub decreases-loop-vertex : goal.decreases-loop-vertex
decreases-loop-vertex l = how_many (λ b. b) l.left.left.items
