-- It stands behind those that stand before it, and before the others.
use Rattle.std.proofs.Common.{◌≡◌, ◌∷◌, Bool, List, ℕ, true, false, sym, subst, if◌then◌else◌}
use Rattle.std.specs.Prelude.{IsPermutation}
use Rattle.std.specs.List.{insert}
use Rattle.std.specs.List.Sorted.{IsPartitionPoint}
use Rattle.std.specs.Ordering.{is_lt}
use Rattle.std.proofs.lemmas.List.Sorted.{IsPermutation-insert}
use Rattle.app_table.proofs.Keys.{by_pid_same, by_pid_total}
use Rattle.app_table.proofs.Indices.{put}
use Rattle.app_table.specs.Ordered.{Rises, by_pid}
use Rattle.app_table.proofs.orders.put_in_by_pid.Goals as goal

pub returns-clause-rises : goal.returns-clause-rises
returns-clause-rises c =
    let at = c.count_before_by_pid-at.result in
    let items = c.args.pids.now.items in
    let point = subst (λ (l : List ℕ). IsPartitionPoint (λ e. is_lt (by_pid c.args.row.now e c.args.index) ≡ true) (λ e. is_lt (by_pid c.args.row.now e c.args.index) ≡ false) l c.count_before_by_pid-at.result) c.as_slice.ensures.value c.count_before_by_pid-at.ensures.point in
    let is = subst (λ (b : Bool). c.insert.new.self.items ≡ (if b then insert c.args.pids.now.items c.count_before_by_pid-at.result c.args.index else c.args.pids.now.items)) (c.insert.ensures.succeeds c.requires.room) c.insert.ensures.items in
    subst (Rises (by_pid c.args.row.now)) (sym is) (put (by_pid c.args.row.now) (by_pid_total c.args.row.now) (by_pid_same c.args.row.now) c.args.pids.now.items c.count_before_by_pid-at.result c.args.index c.requires.rises c.requires.others point)

pub returns-clause-once : goal.returns-clause-once
returns-clause-once c =
    let is = subst (λ (b : Bool). c.insert.new.self.items ≡ (if b then insert c.args.pids.now.items c.count_before_by_pid-at.result c.args.index else c.args.pids.now.items)) (c.insert.ensures.succeeds c.requires.room) c.insert.ensures.items in
    subst (IsPermutation (c.args.index ∷ c.args.pids.now.items)) (sym is) (IsPermutation-insert c.args.pids.now.items c.count_before_by_pid-at.result c.args.index)
