-- The statuses so far are those of the releases so far.
use Rattle.std.proofs.Common.{◌≡◌, take}
use Rattle.release_statuses.proofs.Standing.{statuses_of}
use Rattle.release_statuses.proofs.indices.statuses.Given as goal

abbrev pub invariant-loop-it : goal.invariant-loop-it
invariant-loop-it l = l.statuses.items ≡ statuses_of (take l.it-index l.list)
