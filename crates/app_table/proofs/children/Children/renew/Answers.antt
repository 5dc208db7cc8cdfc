-- Room was made for those that are new.
use Rattle.std.proofs.Common.{List, arith, length, ap}
use Rattle.app_table.proofs.States.{length_of_order}
use Rattle.app_table.specs.Ordered.{by_id, by_pid}
use Rattle.child_specs.specs.declared.child.ChildSpec.{ChildSpec}
use Rattle.app_table.proofs.children.Children.renew.Goals as goal

pub put_all_in-requires-clause-ids : goal.put_all_in-requires-clause-ids
put_all_in-requires-clause-ids c =
    let row = c.self.inside.row.items in
    let count = length_of_order (by_id row) (length row) c.self.inside.ids.items c.self.invariant.of_ids in
    let many = ap (λ (ss : List ChildSpec). length ss) c.as_slice-count.ensures.value in
    omega (arith, count, many, c.as_slice.ensures.len, c.renew_all.ensures.room, c.in_ok-reserve.ensures.len, c.in_ok-reserve-2.ensures.ok, c.in_ok-reserve-2.ensures.len, c.self.inside.ids.ok.0, c.self.inside.row.ok.0)

pub put_all_in-requires-clause-pids : goal.put_all_in-requires-clause-pids
put_all_in-requires-clause-pids c =
    let row = c.self.inside.row.items in
    let count = length_of_order (by_pid row) (length row) c.self.inside.pids.items c.self.invariant.of_pids in
    let many = ap (λ (ss : List ChildSpec). length ss) c.as_slice-count.ensures.value in
    omega (arith, count, many, c.as_slice.ensures.len, c.renew_all.ensures.room, c.in_ok-reserve.ensures.len, c.in_ok-reserve-3.ensures.ok, c.in_ok-reserve-3.ensures.len, c.self.inside.pids.ok.0, c.self.inside.row.ok.0)
