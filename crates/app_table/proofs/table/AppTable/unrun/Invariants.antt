-- Those from here on have no process again.
use Rattle.std.proofs.Common.{◌≡◌, drop}
use Rattle.app_table.specs.Undo.{all_unrun}
use Rattle.app_table.proofs.table.AppTable.unrun.Given as goal

abbrev pub invariant-loop-index : goal.invariant-loop-index
invariant-loop-index l = l.self ≡ all_unrun (drop l.index l.reruns) l.fn.self
