use Rattle.std.proofs.Common.{length, ap}
use Rattle.dependency_order.specs.Lists.{row}
use Rattle.dependency_order.specs.Orders.{stands}
use Rattle.dependency_order.proofs.Entering.{entered_below, entered_more}
use Rattle.dependency_order.proofs.relation.transposed.Goals as goal

pub enter-requires-clause-new : goal.enter-requires-clause-new
enter-requires-clause-new c =
    entered_below (λ p k. stands k (row c.args.lists.now p)) (length c.args.lists.now) c.loop-p.p c.loop-p.back c.loop-p.invariant

pub loop-p-preserved : goal.loop-p-preserved
loop-p-preserved c =
    entered_more (λ p k. stands k (row c.args.lists.now p)) (length c.args.lists.now) c.loop-p.p c.loop-p.back c.enter.new.lists c.at.result.now c.loop-p.invariant c.in_ok-enter.ensures
    (λ k below. ap (stands k) c.at.ensures)
