-- What waits is served, and then the traffic is sent.
use Rattle.upgrade_rehearsal.proofs.Leading.{leads_then, on_ok}
use Rattle.upgrade_rehearsal.specs.Players.{Leads}
use Rattle.upgrade_rehearsal.specs.Stages.{Plays, PlaysEach, ServesAll}
use Rattle.upgrade_rehearsal.proofs.player.Player.play.Goals as goal

pub returns : goal.returns
returns c = on_ok _ (Leads (PlaysEach c.args.traffic.now) _ _) (Leads (Plays c.args.traffic.now) _ _)
    (leads_then ServesAll (PlaysEach c.args.traffic.now) _ _ _ c.in_ok-serve.ensures) c.play_each.ensures
