-- Those that are found, and those that are left.
use Rattle.std.proofs.Common.{◌≡◌, ◌++◌, drop, take}
use Rattle.app_table.specs.Modules.{startable, startable_for}
use Rattle.app_table.proofs.table.AppTable.startable.Given as goal

abbrev pub invariant-loop-at : goal.invariant-loop-at
invariant-loop-at l = l.found.items ++ startable_for l.names (take l.at l.modules) (drop l.at l.modules) l.self ≡ startable l.names l.modules l.self
