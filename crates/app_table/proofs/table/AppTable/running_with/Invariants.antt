-- Those that are found, and those that are left.
use Rattle.std.proofs.Common.{◌≡◌, ◌++◌, drop, take}
use Rattle.app_table.specs.Modules.{running_for, running_with}
use Rattle.app_table.proofs.table.AppTable.running_with.Given as goal

abbrev pub invariant-loop-at : goal.invariant-loop-at
invariant-loop-at l = l.found.items ++ running_for (take l.at l.modules) (drop l.at l.modules) l.self ≡ running_with l.modules l.self
