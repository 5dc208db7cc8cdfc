-- So much of the traffic has been played.
use Rattle.std.proofs.Common.{take}
use Rattle.upgrade_rehearsal.specs.Players.{Leads}
use Rattle.upgrade_rehearsal.specs.Stages.{PlaysEach}
use Rattle.upgrade_rehearsal.proofs.player.Player.play_each.Given as goal

abbrev pub invariant-loop-arrival : goal.invariant-loop-arrival
invariant-loop-arrival l = Leads (PlaysEach (take l.arrival-index l.traffic)) l.fn.self l.self
