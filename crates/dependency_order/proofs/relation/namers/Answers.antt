use Rattle.std.proofs.Common.{◌<◌, length, arith}
use Rattle.dependency_order.specs.Lists.{is_named}
use Rattle.dependency_order.proofs.Entering.{entered_below, entered_more, named_here}
use Rattle.dependency_order.proofs.relation.namers.Goals as goal

pub enter-requires-clause-new : goal.enter-requires-clause-new
enter-requires-clause-new c =
    entered_below (is_named c.args.vertices.now) (length c.args.vertices.now) c.loop-p.p c.loop-p.namers c.loop-p.invariant

pub loop-p-preserved : goal.loop-p-preserved
loop-p-preserved c =
    let in' : c.loop-p.p < length c.args.vertices.now = omega arith in
    entered_more (is_named c.args.vertices.now) (length c.args.vertices.now) c.loop-p.p c.loop-p.namers c.enter.new.lists c.as_slice.result.now c.loop-p.invariant c.in_ok-enter.ensures
    (λ k below. named_here c.args.vertices.now c.loop-p.p c.index-vertices-p.result c.as_slice.result.now k in' c.index-vertices-p.is c.as_slice.ensures)
