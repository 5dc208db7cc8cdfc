-- The first index that isn't below the key has it, where one has it.
use Rattle.std.proofs.Common.{◌≡◌, ◌≤◌, ◌∙◌, ℕ, true, Some, sym, subst, arith, rules, length}
use Rattle.std.specs.Option.{option_cmp}
use Rattle.std.specs.Ordering.{is_eq, is_lt, on}
use Rattle.std.proofs.lemmas.List.Sorted.{IsPartitionPoint-from_clause}
use Rattle.erl_term.specs.Order.{tree_cmp}
use Rattle.erl_term.specs.Term.{tree}
use Rattle.app_table.proofs.Keys.{id_tells, no_id, ids_total}
use Rattle.app_table.proofs.Options.{false_true}
use Rattle.app_table.proofs.Indices.{down, hit, miss, rises_parted}
use Rattle.app_table.specs.Applications.{has_id}
use Rattle.app_table.specs.Ordered.{by_id, id_at}
use Rattle.app_table.specs.declared.child.Child.{Child}
use Rattle.app_table.proofs.orders.first_of_id.Goals as goal

pub returns-in_err-index : goal.returns-in_err-index
returns-in_err-index c =
    let key = id_at c.args.row.now in
    let below = λ (e : ℕ). is_lt (option_cmp (on tree tree_cmp) (id_at c.args.row.now e) (Some c.args.id.now)) in
    let point = IsPartitionPoint-from_clause below c.args.ids.now c.partition_point-at.result c.partition_point-at.ensures.partitioned (rises_parted (by_id c.args.row.now) below (down ids_total key (Some c.args.id.now)) c.args.ids.now c.requires.rises) (λ a r q k. search rules) in
    let past : length c.args.ids.now ≤ c.partition_point-at.result = c.in_err-index.ensures.lookup.3 in
    c.from_residual.ensures ∙ sym (miss ids_total key (Some c.args.id.now) (has_id c.args.id.now) c.args.row.now c.args.ids.now c.partition_point-at.result (id_tells c.args.id.now c.args.row.now) c.requires point (λ j within so. absurd (omega arith)))

pub returns-in_err-child : goal.returns-in_err-child
returns-in_err-child c =
    let key = id_at c.args.row.now in
    let below = λ (e : ℕ). is_lt (option_cmp (on tree tree_cmp) (id_at c.args.row.now e) (Some c.args.id.now)) in
    let point = IsPartitionPoint-from_clause below c.args.ids.now c.partition_point-at.result c.partition_point-at.ensures.partitioned (rises_parted (by_id c.args.row.now) below (down ids_total key (Some c.args.id.now)) c.args.ids.now c.requires.rises) (λ a r q k. search rules) in
    c.from_residual-in_err-child.ensures ∙ sym (miss ids_total key (Some c.args.id.now) (has_id c.args.id.now) c.args.row.now c.args.ids.now c.partition_point-at.result (id_tells c.args.id.now c.args.row.now) c.requires point (λ j within so. no_id c.args.id.now c.args.row.now c.in_ok-index.field-0.now c.in_err-child.ensures.lookup.3 (subst (λ (e : ℕ). is_eq (option_cmp (on tree tree_cmp) (id_at c.args.row.now e) (Some c.args.id.now)) ≡ true) (sym (c.in_ok-index.ensures.lookup.3.1 j)) so)))

pub returns-then-eq : goal.returns-then-eq
returns-then-eq c =
    let key = id_at c.args.row.now in
    let below = λ (e : ℕ). is_lt (option_cmp (on tree tree_cmp) (id_at c.args.row.now e) (Some c.args.id.now)) in
    let point = IsPartitionPoint-from_clause below c.args.ids.now c.partition_point-at.result c.partition_point-at.ensures.partitioned (rises_parted (by_id c.args.row.now) below (down ids_total key (Some c.args.id.now)) c.args.ids.now c.requires.rises) (λ a r q k. search rules) in
    sym (hit ids_total key (Some c.args.id.now) (has_id c.args.id.now) c.args.row.now c.args.ids.now c.partition_point-at.result (id_tells c.args.id.now c.args.row.now) c.requires point c.in_ok-index.field-0.now c.in_ok-child.child.now c.in_ok-index.ensures.lookup.3.1 c.in_ok-child.ensures.lookup.3.0 (c.in_ok-child.ensures.lookup.3.1 c.in_ok-child.child.now) (sym c.eq.ensures ∙ c.if-eq.true))

pub returns-else-eq : goal.returns-else-eq
returns-else-eq c =
    let key = id_at c.args.row.now in
    let below = λ (e : ℕ). is_lt (option_cmp (on tree tree_cmp) (id_at c.args.row.now e) (Some c.args.id.now)) in
    let point = IsPartitionPoint-from_clause below c.args.ids.now c.partition_point-at.result c.partition_point-at.ensures.partitioned (rises_parted (by_id c.args.row.now) below (down ids_total key (Some c.args.id.now)) c.args.ids.now c.requires.rises) (λ a r q k. search rules) in
    let child = c.in_ok-child.child.now in
    let index = c.in_ok-index.field-0.now in
    let so = subst (λ (x : Child). has_id c.args.id.now x ≡ is_eq (option_cmp (on tree tree_cmp) (id_at c.args.row.now c.in_ok-index.field-0.now) (Some c.args.id.now))) (sym (c.in_ok-child.ensures.lookup.3.1 child)) (id_tells c.args.id.now c.args.row.now index child c.in_ok-child.ensures.lookup.3.0) in
    sym (miss ids_total key (Some c.args.id.now) (has_id c.args.id.now) c.args.row.now c.args.ids.now c.partition_point-at.result (id_tells c.args.id.now c.args.row.now) c.requires point (λ j within is. false_true (sym c.if-eq.false ∙ c.eq.ensures ∙ so ∙ subst (λ (e : ℕ). is_eq (option_cmp (on tree tree_cmp) (id_at c.args.row.now e) (Some c.args.id.now)) ≡ true) (sym (c.in_ok-index.ensures.lookup.3.1 j)) is)))
