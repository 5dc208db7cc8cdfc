-- The names so far, and those that are left.
use Rattle.std.proofs.Common.{◌≡◌, ◌++◌, drop}
use Rattle.app_table.specs.Modules.{names_at}
use Rattle.app_table.proofs.table.AppTable.names_of.Given as goal

abbrev pub invariant-loop-child : goal.invariant-loop-child
invariant-loop-child l = l.names.items ++ names_at (drop l.child-index l.children) l.self ≡ names_at l.children l.self
