-- Those that are found, and those that are left.
use Rattle.std.proofs.Common.{◌≡◌, ◌++◌, drop}
use Rattle.app_table.specs.Modules.{each_child, idle_for}
use Rattle.app_table.proofs.app.App.push_idle.Given as goal

abbrev pub invariant-loop-child : goal.invariant-loop-child
invariant-loop-child l = l.found.items ++ each_child (idle_for l.names l.before l.name) l.self l.app l.child (drop l.child l.children) ≡ l.fn.found.items ++ each_child (idle_for l.names l.before l.name) l.self l.app 0 l.children
