-- The indices so far are in order, and there is room for the others.
use Rattle.std.proofs.Common.{◌≡◌, ◌≤◌, length, vec_capacity, vec_len}
use Rattle.app_table.specs.Ordered.{IsOrderOf, by_pid}
use Rattle.app_table.proofs.orders.put_all_in_by_pid.Given as goal

abbrev pub invariant-loop-index : goal.invariant-loop-index
invariant-loop-index l = record {
  order : IsOrderOf (by_pid l.row) l.index l.pids.items;
  len : vec_len l.pids ≡ l.index;
  room : length l.row ≤ vec_capacity l.pids;
}
