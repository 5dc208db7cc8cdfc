-- Those so far have started, or were passed over.
use Rattle.std.proofs.Common.{take}
use Rattle.release_boot.specs.Boot.{EachStarts, to_start}
use Rattle.release_boot.proofs.restarting.restart_each.Given as goal

abbrev pub invariant-loop-app : goal.invariant-loop-app
invariant-loop-app l = EachStarts l.code (to_start (take l.app-index l.release)) l.fn.apps l.fn.processes l.apps l.processes
