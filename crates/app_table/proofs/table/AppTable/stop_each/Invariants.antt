-- Those that are left stop as all do.
use Rattle.std.proofs.Common.{◌≡◌, drop}
use Rattle.app_table.specs.Changes.{all_stopped}
use Rattle.app_table.proofs.table.AppTable.stop_each.Given as goal

abbrev pub invariant-loop-child : goal.invariant-loop-child
invariant-loop-child l = all_stopped (drop l.child-index l.children) l.self ≡ all_stopped l.children l.fn.self
