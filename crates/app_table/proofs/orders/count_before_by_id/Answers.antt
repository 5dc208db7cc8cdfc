-- What stands before the index stands before it at each index before.
use Rattle.std.proofs.Common.{ℕ, rules}
use Rattle.std.specs.Ordering.{is_lt}
use Rattle.std.proofs.lemmas.List.Sorted.{IsPartitionPoint-from_clause}
use Rattle.app_table.proofs.Keys.{by_id_total}
use Rattle.app_table.proofs.Indices.{before_trans, rises_parted}
use Rattle.app_table.specs.Ordered.{by_id}
use Rattle.app_table.proofs.orders.count_before_by_id.Goals as goal

pub returns-clause-point : goal.returns-clause-point
returns-clause-point c =
    let before = λ (e : ℕ). is_lt (by_id c.args.row.now e c.args.index) in
    IsPartitionPoint-from_clause before c.args.ids.now c.partition_point.result c.partition_point.ensures.partitioned (rises_parted (by_id c.args.row.now) before (before_trans (by_id c.args.row.now) (by_id_total c.args.row.now) c.args.index) c.args.ids.now c.requires) (λ a r q k. search rules)
