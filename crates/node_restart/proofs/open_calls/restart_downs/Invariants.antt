-- What was told so far, and what is left.
use Rattle.std.proofs.Common.{◌≡◌, ◌++◌, map}
use Rattle.node_restart.specs.Restart.{restart}
use Rattle.process_effects.specs.Told.{down}
use Rattle.node_restart.proofs.open_calls.restart_downs.Given as goal

abbrev pub invariant-loop-call : goal.invariant-loop-call
invariant-loop-call l = l.told.items ++ map (down restart) l.call-iterator ≡ map (down restart) l.calls.keys
