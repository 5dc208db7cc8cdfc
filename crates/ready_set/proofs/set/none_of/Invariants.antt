-- So many numbers are there, none of them in the set.
use Rattle.std.proofs.Common.{◌≡◌, false, replicate}
use Rattle.ready_set.proofs.set.none_of.Given as goal

abbrev pub invariant-loop : goal.invariant-loop
invariant-loop l = l.set ≡ replicate l.counter false
