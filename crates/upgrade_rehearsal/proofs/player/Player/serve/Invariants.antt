-- So many processes have been served.
use Rattle.std.proofs.Common.{◌≡◌, ◌≤◌, ℕ, List, length}
use Rattle.upgrade_rehearsal.specs.Players.{Leads}
use Rattle.upgrade_rehearsal.specs.Stages.{ServesNext, most_served}
use Rattle.upgrade_rehearsal.specs.Sequences.{InTurn}
use Rattle.upgrade_rehearsal.proofs.player.Player.serve.Given as goal

abbrev pub invariant-loop : goal.invariant-loop
invariant-loop l =
    (pids : List ℕ) × Leads (InTurn ServesNext pids) l.fn.self l.self × (length pids ≡ l.counter) × (l.counter ≤ most_served)
