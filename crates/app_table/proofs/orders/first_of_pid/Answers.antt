-- The first index that isn't below the key has it, where one has it.
use Rattle.std.proofs.Common.{◌≡◌, ◌≤◌, ◌∙◌, ℕ, true, Some, sym, subst, arith, rules, length}
use Rattle.std.specs.Option.{option_cmp}
use Rattle.std.specs.Ordering.{is_eq, is_lt, nat_cmp}
use Rattle.std.proofs.lemmas.List.Sorted.{IsPartitionPoint-from_clause}
use Rattle.app_table.proofs.Keys.{pid_tells, no_pid, pids_total}
use Rattle.app_table.proofs.Options.{false_true}
use Rattle.app_table.proofs.Indices.{down, hit, miss, rises_parted}
use Rattle.app_table.specs.Children.{runs_as}
use Rattle.app_table.specs.Ordered.{by_pid, pid_at}
use Rattle.app_table.specs.declared.child.Child.{Child}
use Rattle.app_table.proofs.orders.first_of_pid.Goals as goal

pub returns-in_err-index : goal.returns-in_err-index
returns-in_err-index c =
    let key = pid_at c.args.row.now in
    let below = λ (e : ℕ). is_lt (option_cmp nat_cmp (pid_at c.args.row.now e) (Some c.args.pid)) in
    let point = IsPartitionPoint-from_clause below c.args.pids.now c.partition_point-at.result c.partition_point-at.ensures.partitioned (rises_parted (by_pid c.args.row.now) below (down pids_total key (Some c.args.pid)) c.args.pids.now c.requires.rises) (λ a r q k. search rules) in
    let past : length c.args.pids.now ≤ c.partition_point-at.result = c.in_err-index.ensures.lookup.3 in
    c.from_residual.ensures ∙ sym (miss pids_total key (Some c.args.pid) (runs_as c.args.pid) c.args.row.now c.args.pids.now c.partition_point-at.result (pid_tells c.args.pid c.args.row.now) c.requires point (λ j within so. absurd (omega arith)))

pub returns-in_err-child : goal.returns-in_err-child
returns-in_err-child c =
    let key = pid_at c.args.row.now in
    let below = λ (e : ℕ). is_lt (option_cmp nat_cmp (pid_at c.args.row.now e) (Some c.args.pid)) in
    let point = IsPartitionPoint-from_clause below c.args.pids.now c.partition_point-at.result c.partition_point-at.ensures.partitioned (rises_parted (by_pid c.args.row.now) below (down pids_total key (Some c.args.pid)) c.args.pids.now c.requires.rises) (λ a r q k. search rules) in
    c.from_residual-in_err-child.ensures ∙ sym (miss pids_total key (Some c.args.pid) (runs_as c.args.pid) c.args.row.now c.args.pids.now c.partition_point-at.result (pid_tells c.args.pid c.args.row.now) c.requires point (λ j within so. no_pid c.args.pid c.args.row.now c.in_ok-index.field-0.now c.in_err-child.ensures.lookup.3 (subst (λ (e : ℕ). is_eq (option_cmp nat_cmp (pid_at c.args.row.now e) (Some c.args.pid)) ≡ true) (sym (c.in_ok-index.ensures.lookup.3.1 j)) so)))

pub returns-then-runs_as : goal.returns-then-runs_as
returns-then-runs_as c =
    let key = pid_at c.args.row.now in
    let below = λ (e : ℕ). is_lt (option_cmp nat_cmp (pid_at c.args.row.now e) (Some c.args.pid)) in
    let point = IsPartitionPoint-from_clause below c.args.pids.now c.partition_point-at.result c.partition_point-at.ensures.partitioned (rises_parted (by_pid c.args.row.now) below (down pids_total key (Some c.args.pid)) c.args.pids.now c.requires.rises) (λ a r q k. search rules) in
    sym (hit pids_total key (Some c.args.pid) (runs_as c.args.pid) c.args.row.now c.args.pids.now c.partition_point-at.result (pid_tells c.args.pid c.args.row.now) c.requires point c.in_ok-index.field-0.now c.in_ok-child.child.now c.in_ok-index.ensures.lookup.3.1 c.in_ok-child.ensures.lookup.3.0 (c.in_ok-child.ensures.lookup.3.1 c.in_ok-child.child.now) (sym c.runs_as.ensures ∙ c.if-runs_as.true))

pub returns-else-runs_as : goal.returns-else-runs_as
returns-else-runs_as c =
    let key = pid_at c.args.row.now in
    let below = λ (e : ℕ). is_lt (option_cmp nat_cmp (pid_at c.args.row.now e) (Some c.args.pid)) in
    let point = IsPartitionPoint-from_clause below c.args.pids.now c.partition_point-at.result c.partition_point-at.ensures.partitioned (rises_parted (by_pid c.args.row.now) below (down pids_total key (Some c.args.pid)) c.args.pids.now c.requires.rises) (λ a r q k. search rules) in
    let child = c.in_ok-child.child.now in
    let index = c.in_ok-index.field-0.now in
    let so = subst (λ (x : Child). runs_as c.args.pid x ≡ is_eq (option_cmp nat_cmp (pid_at c.args.row.now c.in_ok-index.field-0.now) (Some c.args.pid))) (sym (c.in_ok-child.ensures.lookup.3.1 child)) (pid_tells c.args.pid c.args.row.now index child c.in_ok-child.ensures.lookup.3.0) in
    sym (miss pids_total key (Some c.args.pid) (runs_as c.args.pid) c.args.row.now c.args.pids.now c.partition_point-at.result (pid_tells c.args.pid c.args.row.now) c.requires point (λ j within is. false_true (sym c.if-runs_as.false ∙ c.runs_as.ensures ∙ so ∙ subst (λ (e : ℕ). is_eq (option_cmp nat_cmp (pid_at c.args.row.now e) (Some c.args.pid)) ≡ true) (sym (c.in_ok-index.ensures.lookup.3.1 j)) is)))
