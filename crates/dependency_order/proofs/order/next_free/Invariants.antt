use Rattle.std.proofs.Common.{◌≡◌, length, btree_set_len}
use Rattle.dependency_order.specs.Left.{Knows}
use Rattle.dependency_order.proofs.order.next_free.Given as goal

abbrev pub invariant-loop-vertex : goal.invariant-loop-vertex
invariant-loop-vertex l = record {
  known : Knows l.asks l.gives (length l.asks) (length l.asks) l.left;
  same : l.left.left.items ≡ l.initial.left.left.items;
  itself : l.left.itself ≡ l.initial.left.itself;
}

abbrev pub decreases-loop-vertex : goal.decreases-loop-vertex
decreases-loop-vertex l = btree_set_len l.left.free
