-- The interfaces so far.
use Rattle.std.proofs.Common.{◌≡◌, ◌++◌, map, take}
use Rattle.upgrade_review.specs.Interfaces.{interface_of}
use Rattle.upgrade_review.proofs.interface.push_interfaces.Given as goal

abbrev pub invariant-loop-source : goal.invariant-loop-source
invariant-loop-source l = l.found.items ≡ l.fn.found.items ++ map (interface_of l.files.spec.name) (take l.source-index l.sources)
