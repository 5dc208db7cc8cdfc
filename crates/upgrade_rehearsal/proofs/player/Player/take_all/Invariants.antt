-- So many processes have taken a message.
use Rattle.std.proofs.Common.{◌≡◌, ℕ, List, length}
use Rattle.upgrade_rehearsal.specs.Players.{Leads}
use Rattle.upgrade_rehearsal.specs.Stages.{TakesNext}
use Rattle.upgrade_rehearsal.specs.Sequences.{InTurn}
use Rattle.upgrade_rehearsal.proofs.player.Player.take_all.Given as goal

abbrev pub invariant-loop-taken : goal.invariant-loop-taken
invariant-loop-taken l = (pids : List ℕ) × Leads (InTurn TakesNext pids) l.fn.self l.self × (l.taken ≡ length pids)
