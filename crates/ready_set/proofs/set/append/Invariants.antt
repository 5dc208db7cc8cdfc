-- The first numbers of the other set stand there.
use Rattle.std.proofs.Common.{◌≡◌, ◌++◌, take}
use Rattle.ready_set.proofs.set.append.Given as goal

abbrev pub invariant-loop-number : goal.invariant-loop-number
invariant-loop-number l = l.set ≡ l.initial.set ++ take l.number l.other
