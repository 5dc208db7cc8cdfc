-- The Ids are in the order that they were in.
use Rattle.std.proofs.Common.{◌∙◌, List, ap, sym, subst, arith, drop, length}
use Rattle.std.proofs.lemmas.List.{take_at}
use Rattle.app_table.proofs.States.{ids_in_states, length_of_order}
use Rattle.app_table.specs.Ordered.{IsOrderOf, by_id, by_pid}
use Rattle.app_table.specs.Undo.{in_states}
use Rattle.app_table.specs.declared.child.Child.{Child}
use Rattle.app_table.proofs.children.Children.set_states.Goals as goal

pub put_all_in_by_pid-requires : goal.put_all_in_by_pid-requires
put_all_in_by_pid-requires c =
    let row = c.self.inside.row.items in
    let count = length_of_order (by_pid row) (length row) c.self.inside.pids.items c.self.invariant.of_pids in
    omega (arith, count, c.as_slice.ensures.len, c.self.inside.row.ok.0, c.self.inside.pids.ok.0, c.self.inside.pids.ok.1)

pub invariant_of-self : goal.invariant_of-self
invariant_of-self c =
    let row = c.self.inside.row.items in
    let row_is = take_at c.set_each.new.row (drop (length c.set_each.new.row) row) c.self.inside.row.len (c.set_each.auto.row ∙ c.as_mut_slice.ensures.len) ∙ c.set_each.ensures ∙ ap (in_states c.args.states.now) c.as_mut_slice.ensures.value in
    record {
      of_ids = subst (λ (r : List Child). IsOrderOf (by_id r) (length r) c.self.inside.ids.items) (sym row_is) (ids_in_states c.args.states.now row c.self.inside.ids.items c.self.invariant.of_ids);
      of_pids = subst (λ (r : List Child). IsOrderOf (by_pid r) (length r) c.put_all_in_by_pid.new.pids.items) c.as_slice.ensures.value c.put_all_in_by_pid.ensures;
    }
