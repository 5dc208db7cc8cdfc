-- Each index before here stands at itself.
use Rattle.std.proofs.Common.{◌≡◌, ◌++◌, drop}
use Rattle.std.specs.List.{range_with_len}
use Rattle.app_table.proofs.orders.order_indices.Given as goal

abbrev pub invariant-loop-index : goal.invariant-loop-index
invariant-loop-index l = l.indices ≡ range_with_len 0 l.index ++ drop l.index l.fn.indices
