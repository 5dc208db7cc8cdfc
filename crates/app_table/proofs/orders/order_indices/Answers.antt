-- One more index stands at itself.
use Rattle.std.proofs.Common.{◌++◌, ◌+◌, ◌∙◌, List, ℕ, ap, sym, drop, slice_set}
use Rattle.std.specs.List.{range_with_len}
use Rattle.std.proofs.lemmas.List.FromFn.{length-range_with_len}
use Rattle.app_table.proofs.Indices.{range_next}
use Rattle.app_table.proofs.Writes.{set_front}
use Rattle.app_table.proofs.orders.order_indices.Goals as goal

pub loop-index-preserved : goal.loop-index-preserved
loop-index-preserved c =
    let k = c.loop-index.index in
    ap (λ (l : List ℕ). slice_set l k k) c.loop-index.invariant ∙ set_front (range_with_len 0 k) c.args.indices.now k k (length-range_with_len 0 k) c.loop-index-test.true ∙ ap (λ (l : List ℕ). l ++ drop (k + 1) c.args.indices.now) (sym (range_next k))
