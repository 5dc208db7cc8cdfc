-- The other indices are in order as they were, and this one moves to where it belongs.
use Rattle.std.proofs.Common.{◌≡◌, ◌∙◌, List, ℕ, true, false, sym, subst, length}
use Rattle.std.specs.List.{remove}
use Rattle.std.specs.List.Sorted.{IsPartitionPoint}
use Rattle.std.specs.Ordering.{is_lt}
use Rattle.values.specs.Edits.{changed_at}
use Rattle.app_table.proofs.Keys.{others_rise, pid_index, pids_moved}
use Rattle.app_table.proofs.Writes.{changed_from_write}
use Rattle.app_table.specs.Children.{in_state}
use Rattle.app_table.specs.Ordered.{IsOrderOf, Rises, by_pid}
use Rattle.app_table.specs.declared.child.Child.{Child}
use Rattle.app_table.proofs.orders.set_state.Goals as goal

pub count_others_before-to-requires-clause-rises : goal.count_others_before-to-requires-clause-rises
count_others_before-to-requires-clause-rises c =
    let is = changed_from_write (in_state c.args.state) c.args.row.now.items c.args.index c.index_mut.result.now c.set.new.self c.requires.there c.index_mut.ensures.value c.set.ensures in
    let point = subst (λ (r : List Child). IsPartitionPoint (λ e. is_lt (by_pid r e c.args.index) ≡ true) (λ e. is_lt (by_pid r e c.args.index) ≡ false) c.args.pids.now c.count_before_by_pid-from.result) c.as_slice.ensures.value c.count_before_by_pid-from.ensures.point in
    subst (λ (r : List Child). Rises (by_pid r) (remove c.args.pids.now c.count_before_by_pid-from.result)) (sym (c.as_slice-2.ensures.value ∙ is)) (others_rise c.args.state c.args.row.now.items c.args.pids.now c.count_before_by_pid-from.result c.args.index c.requires.order c.requires.there point)

pub count_others_before-to-requires-clause-there : goal.count_others_before-to-requires-clause-there
count_others_before-to-requires-clause-there c =
    let point = subst (λ (r : List Child). IsPartitionPoint (λ e. is_lt (by_pid r e c.args.index) ≡ true) (λ e. is_lt (by_pid r e c.args.index) ≡ false) c.args.pids.now c.count_before_by_pid-from.result) c.as_slice.ensures.value c.count_before_by_pid-from.ensures.point in
    (pid_index c.args.state c.args.row.now.items c.args.pids.now c.count_before_by_pid-from.result c.args.index c.requires.order c.requires.there point).0

pub shift-requires-clause-from : goal.shift-requires-clause-from
shift-requires-clause-from c =
    let point = subst (λ (r : List Child). IsPartitionPoint (λ e. is_lt (by_pid r e c.args.index) ≡ true) (λ e. is_lt (by_pid r e c.args.index) ≡ false) c.args.pids.now c.count_before_by_pid-from.result) c.as_slice.ensures.value c.count_before_by_pid-from.ensures.point in
    (pid_index c.args.state c.args.row.now.items c.args.pids.now c.count_before_by_pid-from.result c.args.index c.requires.order c.requires.there point).0

pub returns-clause-set : goal.returns-clause-set
returns-clause-set c = changed_from_write (in_state c.args.state) c.args.row.now.items c.args.index c.index_mut.result.now c.set.new.self c.requires.there c.index_mut.ensures.value c.set.ensures

pub returns-clause-order : goal.returns-clause-order
returns-clause-order c =
    let is = changed_from_write (in_state c.args.state) c.args.row.now.items c.args.index c.index_mut.result.now c.set.new.self c.requires.there c.index_mut.ensures.value c.set.ensures in
    let point = subst (λ (r : List Child). IsPartitionPoint (λ e. is_lt (by_pid r e c.args.index) ≡ true) (λ e. is_lt (by_pid r e c.args.index) ≡ false) c.args.pids.now c.count_before_by_pid-from.result) c.as_slice.ensures.value c.count_before_by_pid-from.ensures.point in
    let again = subst (λ (r : List Child). IsPartitionPoint (λ e. is_lt (by_pid r e c.args.index) ≡ true) (λ e. is_lt (by_pid r e c.args.index) ≡ false) (remove c.args.pids.now c.count_before_by_pid-from.result) c.count_others_before-to.result) (c.as_slice-2.ensures.value ∙ is) c.count_others_before-to.ensures.point in
    let moved = pids_moved c.args.state c.args.row.now.items c.args.pids.now c.count_before_by_pid-from.result c.args.index c.requires.order c.requires.there point c.count_others_before-to.result again in
    let moved_on = subst (λ (l : List ℕ). IsOrderOf (by_pid (changed_at (in_state c.args.state) c.args.row.now.items c.args.index)) (length (changed_at (in_state c.args.state) c.args.row.now.items c.args.index)) l) (sym c.shift.ensures) moved in
    subst (λ (r : List Child). IsOrderOf (by_pid r) (length r) c.shift.new.pids) (sym is) moved_on
