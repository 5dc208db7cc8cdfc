-- The Ids are in the order that they were in, and the pids in that of the indices.
use Rattle.std.proofs.Common.{◌++◌, ◌∙◌, List, ap, sym, subst, drop, length, map, take}
use Rattle.std.specs.List.{range_with_len}
use Rattle.std.proofs.lemmas.List.{take_at}
use Rattle.app_table.proofs.States.{orders_stopped}
use Rattle.app_table.specs.Children.{in_state}
use Rattle.app_table.specs.Ordered.{AreOrdersOf}
use Rattle.app_table.specs.declared.child.Child.{Child}
use Rattle.app_table.specs.declared.child.ChildState.TheVariants.{Stopped}
use Rattle.app_table.proofs.children.Children.stop_all.Goals as goal

pub invariant_of-self : goal.invariant_of-self
invariant_of-self c =
    let row = c.self.inside.row.items in
    let pids = c.self.inside.pids.items in
    let indices = c.order_indices.new.indices in
    let row_is = take_at c.stop_each.new.row (drop (length c.stop_each.new.row) row) c.self.inside.row.len (c.stop_each.auto.row ∙ c.as_mut_slice.ensures.len) ∙ c.stop_each.ensures ∙ ap (map (in_state Stopped)) c.as_mut_slice.ensures.value in
    let indices_is = take_at indices (drop (length indices) pids) c.self.inside.pids.len (c.order_indices.auto.indices ∙ c.as_mut_slice-2.ensures.len) ∙ c.order_indices.ensures ∙ ap (λ l. range_with_len 0 (length l)) c.as_mut_slice-2.ensures.value in
    subst (λ (r : List Child). AreOrdersOf r c.self.inside.ids.items (take c.self.inside.pids.len (c.order_indices.new.indices ++ drop (length c.order_indices.new.indices) c.self.inside.pids.items))) (sym row_is) (orders_stopped row c.self.inside.ids.items pids (take c.self.inside.pids.len (indices ++ drop (length indices) pids)) c.self.invariant indices_is)
