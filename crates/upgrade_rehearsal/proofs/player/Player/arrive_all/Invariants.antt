-- So much of the traffic has been sent.
use Rattle.std.proofs.Common.{take}
use Rattle.upgrade_rehearsal.specs.Players.{Leads}
use Rattle.upgrade_rehearsal.specs.Stages.{AllCome}
use Rattle.upgrade_rehearsal.proofs.player.Player.arrive_all.Given as goal

abbrev pub invariant-loop-arrival : goal.invariant-loop-arrival
invariant-loop-arrival l = Leads (AllCome (take l.arrival-index l.traffic)) l.fn.self l.self
