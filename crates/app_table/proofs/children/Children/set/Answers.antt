-- The Ids are in the order that they were in.
use Rattle.std.proofs.Common.{◌≡◌, ◌≤◌, ◌∙◌, ◌++◌, List, ap, sym, subst, arith, length, take, drop}
use Rattle.std.proofs.Math.Seq.{take-append_seam}
use Rattle.app_table.proofs.Keys.{ids_kept}
use Rattle.app_table.proofs.Writes.{changed_past}
use Rattle.app_table.specs.Children.{in_state}
use Rattle.app_table.specs.Ordered.{IsOrderOf, by_id, by_pid}
use Rattle.app_table.specs.declared.child.Child.{Child}
use Rattle.app_table.proofs.children.Children.set.Goals as goal

pub invariant_of-self : goal.invariant_of-self
invariant_of-self c =
    let indices = c.set_state.new.pids in
    let long = c.set_state.auto.pids ∙ c.as_mut_slice.ensures.len in
    let whole = subst (λ n. take n (c.set_state.new.pids ++ drop (length c.set_state.new.pids) c.self.inside.pids.items) ≡ c.set_state.new.pids) long (take-append_seam indices (drop (length c.set_state.new.pids) c.self.inside.pids.items)) in
    record {
      of_ids = subst (λ (r : List Child). IsOrderOf (by_id r) (length r) c.self.inside.ids.items) (sym c.set_state.ensures.set) (ids_kept c.args.state c.self.inside.row.items c.args.index c.self.inside.ids.items c.self.invariant.of_ids);
      of_pids = subst (IsOrderOf (by_pid c.set_state.new.row.items) (length c.set_state.new.row.items)) (sym whole) c.set_state.ensures.order;
    }

pub returns-else-index-as_slice : goal.returns-else-index-as_slice
returns-else-index-as_slice c =
    let seen = ap length (c.as_slice.ensures.value ∙ c.self.view_is) in
    let past : length c.args.self.now ≤ c.args.index = omega (arith, seen, c.if-index-as_slice.false) in
    sym (changed_past (in_state c.args.state) c.args.self.now c.args.index past)
