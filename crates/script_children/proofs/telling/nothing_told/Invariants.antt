-- So many are made so far.
use Rattle.std.proofs.Common.{◌≡◌, [], replicate}
use Rattle.script_children.proofs.telling.nothing_told.Given as goal

abbrev pub invariant-loop-i : goal.invariant-loop-i
invariant-loop-i l = l.told.items ≡ replicate l._i []
