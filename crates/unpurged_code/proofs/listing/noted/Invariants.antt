-- Those of the modules up to the index.
use Rattle.std.proofs.Common.{take}
use Rattle.unpurged_code.proofs.Gathering.{Gathered}
use Rattle.unpurged_code.proofs.listing.noted.Given as goal

abbrev pub invariant-loop-index : goal.invariant-loop-index
invariant-loop-index l = Gathered l.kind (take l.index l.modules.entries) l.names.items
