-- Those that are there, and those that are left.
use Rattle.std.proofs.Common.{◌≡◌, ◌++◌, map}
use Rattle.std.specs.Vec.Iter.{into_iter_items}
use Rattle.app_table.specs.Applications.{loaded}
use Rattle.app_table.proofs.table.AppTable.new.Given as goal

abbrev pub invariant-loop-spec : goal.invariant-loop-spec
invariant-loop-spec l = l.list.items ++ map loaded (into_iter_items l.spec-iterator) ≡ map loaded l.fn.specs
