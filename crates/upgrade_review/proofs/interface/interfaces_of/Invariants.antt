-- The interfaces so far.
use Rattle.std.proofs.Common.{◌≡◌, take}
use Rattle.std.specs.List.{flat_map}
use Rattle.upgrade_review.specs.Interfaces.{interfaces_in}
use Rattle.upgrade_review.proofs.interface.interfaces_of.Given as goal

abbrev pub invariant-loop-files : goal.invariant-loop-files
invariant-loop-files l = l.found.items ≡ flat_map interfaces_in (take l.files-index l.apps)
