-- The calls so far.
use Rattle.std.proofs.Common.{◌≡◌, take}
use Rattle.upgrade_review.specs.Interfaces.{calls_of}
use Rattle.upgrade_review.proofs.interface.calls_of.Given as goal

abbrev pub invariant-loop-index : goal.invariant-loop-index
invariant-loop-index l = l.found.items ≡ calls_of (take l.index l.source.functions)
