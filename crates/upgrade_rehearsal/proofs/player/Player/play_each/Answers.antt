-- One message more.
use Rattle.upgrade_rehearsal.proofs.Leading.{leads_all, leads_next, leads_nowhere}
use Rattle.upgrade_rehearsal.specs.Stages.{Comes, Scene, ServesAll}
use Rattle.upgrade_rehearsal.specs.Sequences.{Then}
use Rattle.upgrade_rehearsal.specs.declared.arrival.Arrival.{Arrival}
use Rattle.upgrade_rehearsal.proofs.player.Player.play_each.Goals as goal

abbrev plays_one : Arrival → Scene
plays_one a = Then (Comes a) ServesAll

pub loop-arrival-init : goal.loop-arrival-init
loop-arrival-init c = leads_nowhere plays_one c.args.self.now

pub loop-arrival-preserved : goal.loop-arrival-preserved
loop-arrival-preserved c = leads_next plays_one c.args.traffic.now c.loop-arrival.arrival-index c.arrival-item.result _ _ _
    c.loop-arrival-test.true c.arrival-item.is c.loop-arrival.invariant c.in_ok-play_one.ensures

pub returns : goal.returns
returns c = leads_all plays_one c.args.traffic.now c.loop-arrival.arrival-index _ _ c.loop-arrival-test.false
    c.loop-arrival.invariant
