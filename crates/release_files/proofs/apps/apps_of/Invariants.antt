-- The applications so far are read, and the names of their modules were seen.
use Rattle.std.proofs.Common.{take}
use Rattle.release_files.proofs.Applied.{AreReadSoFar}
use Rattle.release_files.proofs.apps.apps_of.Given as goal

abbrev pub invariant-loop-app : goal.invariant-loop-app
invariant-loop-app l = AreReadSoFar l.files (take l.app-index l.apps) l.seen l.read.items
