-- The sources so far are told.
use Rattle.std.proofs.Common.{take}
use Rattle.release_files.specs.Found.{TellsSources}
use Rattle.release_files.proofs.faults.faults_of_sources.Given as goal

abbrev pub invariant-loop-name : goal.invariant-loop-name
invariant-loop-name l =
    TellsSources l.files l.app (take l.name-index l.names) l.fn.seen l.seen l.fn.found.items l.found.items
