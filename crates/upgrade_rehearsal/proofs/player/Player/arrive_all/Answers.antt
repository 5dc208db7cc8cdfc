-- One message more.
use Rattle.upgrade_rehearsal.proofs.Leading.{leads_all, leads_next, leads_nowhere}
use Rattle.upgrade_rehearsal.specs.Stages.{Comes}
use Rattle.upgrade_rehearsal.proofs.player.Player.arrive_all.Goals as goal

pub loop-arrival-init : goal.loop-arrival-init
loop-arrival-init c = leads_nowhere Comes c.args.self.now

pub loop-arrival-preserved : goal.loop-arrival-preserved
loop-arrival-preserved c = leads_next Comes c.args.traffic.now c.loop-arrival.arrival-index c.arrival-item.result _ _ _
    c.loop-arrival-test.true c.arrival-item.is c.loop-arrival.invariant c.in_ok-arrive.ensures

pub returns : goal.returns
returns c = leads_all Comes c.args.traffic.now c.loop-arrival.arrival-index _ _ c.loop-arrival-test.false c.loop-arrival.invariant
