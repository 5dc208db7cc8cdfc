-- Those from here on are suspended as they were.
use Rattle.std.proofs.Common.{◌≡◌, drop}
use Rattle.process_table.specs.States.{all_unresumed}
use Rattle.process_table.proofs.states.unresume.Given as goal

abbrev pub invariant-loop-index : goal.invariant-loop-index
invariant-loop-index l = l.store ≡ all_unresumed (drop l.index l.resumed) l.fn.store
