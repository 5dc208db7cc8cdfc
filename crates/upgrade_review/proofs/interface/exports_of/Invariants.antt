-- The functions so far that are exported.
use Rattle.std.proofs.Common.{◌≡◌, take}
use Rattle.upgrade_review.specs.Interfaces.{exports_of}
use Rattle.upgrade_review.proofs.interface.exports_of.Given as goal

abbrev pub invariant-loop-index : goal.invariant-loop-index
invariant-loop-index l = l.found.items ≡ exports_of (take l.index l.source.functions)
