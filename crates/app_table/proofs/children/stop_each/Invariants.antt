-- Those before here are stopped.
use Rattle.std.proofs.Common.{◌≡◌, ◌++◌, drop, map, take}
use Rattle.app_table.specs.Children.{in_state}
use Rattle.app_table.specs.declared.child.ChildState.TheVariants.{Stopped}
use Rattle.app_table.proofs.children.stop_each.Given as goal

abbrev pub invariant-loop-child : goal.invariant-loop-child
invariant-loop-child l = l.row ≡ map (in_state Stopped) (take l.child-index l.fn.row) ++ drop l.child-index l.fn.row
