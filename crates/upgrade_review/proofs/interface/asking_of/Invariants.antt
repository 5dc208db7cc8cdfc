-- The functions so far that serve a process and call gen_server:call.
use Rattle.std.proofs.Common.{◌≡◌, take}
use Rattle.upgrade_review.specs.Interfaces.{asking_of}
use Rattle.upgrade_review.proofs.interface.asking_of.Given as goal

abbrev pub invariant-loop-index : goal.invariant-loop-index
invariant-loop-index l = l.found.items ≡ asking_of (take l.index l.source.functions)
