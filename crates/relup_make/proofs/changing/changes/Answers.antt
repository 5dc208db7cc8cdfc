-- The instructions at the indices.
use Rattle.std.proofs.Common.{ap, ◌∙◌}
use Rattle.std.specs.Prelude.{option_and_then}
use Rattle.std.specs.List.{filter_map, slice_get}
use Rattle.std.proofs.lemmas.List.{take_all}
use Rattle.relup_make.specs.Chosen.{change_for}
use Rattle.relup_make.proofs.Picked.{picked, index_more}
use Rattle.relup_make.proofs.changing.changes.Goals as goal

pub loop-index-preserved : goal.loop-index-preserved
loop-index-preserved c =
    index_more (λ index. option_and_then (change_for c.args.kind) (slice_get c.args.instructions.now index)) c.args.order.now c.loop-index.index-index c.loop-index.found.items _ c.loop-index-test.true c.in_ok-append_at.ensures c.loop-index.invariant

pub returns : goal.returns
returns c =
    let is = c.args.instructions.now in
    c.loop-index.invariant
    ∙ ap (filter_map (λ index. option_and_then (change_for c.args.kind) (slice_get is index))) (take_all c.loop-index.index-index c.args.order.now c.loop-index-test.false)
    ∙ picked (change_for c.args.kind) is c.args.order.now
