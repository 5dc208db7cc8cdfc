-- So many are made so far.
use Rattle.std.proofs.Common.{◌≡◌, replicate}
use Rattle.node_parts.proofs.telling.tell_copies.Given as goal

abbrev pub invariant-loop-i : goal.invariant-loop-i
invariant-loop-i l = l.told.items ≡ replicate l._i record { answer = l.answer; note = l.note }
