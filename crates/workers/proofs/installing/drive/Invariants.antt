-- The install was advanced, and goes on.
use Rattle.workers.specs.Installing.{HasAdvanced}
use Rattle.workers.proofs.installing.drive.Given as goal

abbrev pub invariant-loop : goal.invariant-loop
invariant-loop g l = HasAdvanced l.fn.patience l.left l.initial.seat l.seat
