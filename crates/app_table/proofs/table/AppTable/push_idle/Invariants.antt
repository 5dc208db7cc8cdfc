-- Those that are found, and those that are left.
use Rattle.std.proofs.Common.{◌≡◌, ◌++◌, drop}
use Rattle.app_table.specs.Modules.{each_of, idle_for}
use Rattle.app_table.proofs.table.AppTable.push_idle.Given as goal

abbrev pub invariant-loop-at : goal.invariant-loop-at
invariant-loop-at l = l.found.items ++ each_of (idle_for l.names l.before l.name) l.at (drop l.at l.apps) ≡ l.fn.found.items ++ each_of (idle_for l.names l.before l.name) 0 l.apps
