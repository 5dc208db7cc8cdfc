-- The sources so far are fine, and their names were seen.
use Rattle.std.proofs.Common.{take}
use Rattle.release_files.proofs.Sourced.{AreSoFar}
use Rattle.release_files.proofs.sources.sources_of.Given as goal

abbrev pub invariant-loop-name : goal.invariant-loop-name
invariant-loop-name l =
    AreSoFar l.files l.app l.fn.seen (take l.name-index l.names) l.seen l.modules.items
