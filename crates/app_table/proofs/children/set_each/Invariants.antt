-- Those before here are in their states.
use Rattle.std.proofs.Common.{◌≡◌, take}
use Rattle.app_table.specs.Undo.{in_states}
use Rattle.app_table.proofs.children.set_each.Given as goal

abbrev pub invariant-loop-index : goal.invariant-loop-index
invariant-loop-index l = l.row ≡ in_states (take l.index l.states) l.fn.row
