use Rattle.std.proofs.Common.{◌<◌, length, arith, ◌∷◌, []}
use Rattle.dependency_order.specs.Lists.{is_on}
use Rattle.dependency_order.proofs.Entering.{entered_below, entered_more, on_here}
use Rattle.dependency_order.proofs.relation.on.Goals as goal

pub enter-requires-clause-new : goal.enter-requires-clause-new
enter-requires-clause-new c =
    entered_below (is_on c.args.vertices.now) (length c.args.vertices.now) c.loop-p.p c.loop-p.on c.loop-p.invariant

pub loop-p-preserved : goal.loop-p-preserved
loop-p-preserved c =
    let in' : c.loop-p.p < length c.args.vertices.now = omega arith in
    entered_more (is_on c.args.vertices.now) (length c.args.vertices.now) c.loop-p.p c.loop-p.on c.enter.new.lists (c.index-vertices-p.result.module ∷ []) c.loop-p.invariant c.in_ok-enter.ensures
    (λ k below. on_here c.args.vertices.now c.loop-p.p c.index-vertices-p.result k in' c.index-vertices-p.is)
