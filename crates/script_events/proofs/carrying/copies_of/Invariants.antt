-- As many as so far.
use Rattle.std.proofs.Common.{◌≡◌, replicate}
use Rattle.script_events.proofs.carrying.copies_of.Given as goal

abbrev pub invariant-loop-i : goal.invariant-loop-i
invariant-loop-i l = l.copies.items ≡ replicate l._i l.instruction
