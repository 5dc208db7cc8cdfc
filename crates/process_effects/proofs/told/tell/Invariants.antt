-- The calls so far are told, behind what was told already, and those that are left will be.
use Rattle.std.proofs.Common.{◌≡◌, ◌++◌, map}
use Rattle.process_effects.specs.Told.{down}
use Rattle.process_effects.proofs.told.tell.Given as goal

abbrev pub invariant-loop-call : goal.invariant-loop-call
invariant-loop-call l = l.replies.items ++ map (down l.reason) l.call-iterator ≡ l.fn.replies.items ++ map (down l.reason) l.calls
