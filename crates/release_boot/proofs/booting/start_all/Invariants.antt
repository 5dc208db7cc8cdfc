-- Those so far have started.
use Rattle.std.proofs.Common.{take}
use Rattle.release_boot.specs.Boot.{AllStart, to_start}
use Rattle.release_boot.proofs.booting.start_all.Given as goal

abbrev pub invariant-loop-app : goal.invariant-loop-app
invariant-loop-app l = AllStart l.code (to_start (take l.app-index l.release)) l.fn.apps l.fn.processes l.apps l.processes
