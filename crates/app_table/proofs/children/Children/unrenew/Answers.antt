-- There are no more children than before, for which the orders had room.
use Rattle.std.proofs.Common.{arith, length}
use Rattle.app_table.proofs.States.{length_of_order}
use Rattle.app_table.specs.Ordered.{by_id, by_pid}
use Rattle.app_table.proofs.children.Children.unrenew.Goals as goal

pub put_all_in-requires-clause-ids : goal.put_all_in-requires-clause-ids
put_all_in-requires-clause-ids c =
    let row = c.self.inside.row.items in
    let count = length_of_order (by_id row) (length row) c.self.inside.ids.items c.self.invariant.of_ids in
    omega (arith, count, c.as_slice.ensures.len, c.unrenew_all.ensures.room, c.self.inside.ids.ok.0, c.self.inside.row.ok.0)

pub put_all_in-requires-clause-pids : goal.put_all_in-requires-clause-pids
put_all_in-requires-clause-pids c =
    let row = c.self.inside.row.items in
    let count = length_of_order (by_pid row) (length row) c.self.inside.pids.items c.self.invariant.of_pids in
    omega (arith, count, c.as_slice.ensures.len, c.unrenew_all.ensures.room, c.self.inside.pids.ok.0, c.self.inside.row.ok.0)
