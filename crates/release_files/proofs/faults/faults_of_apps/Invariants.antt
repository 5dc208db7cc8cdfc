-- The applications so far are told.
use Rattle.std.proofs.Common.{take}
use Rattle.release_files.proofs.Looked.{TellsApps}
use Rattle.release_files.proofs.faults.faults_of_apps.Given as goal

abbrev pub invariant-loop-app : goal.invariant-loop-app
invariant-loop-app l =
    TellsApps l.files (take l.app-index l.apps) l.seen l.fn.found.items l.found.items
