-- Those from here on run again.
use Rattle.std.proofs.Common.{◌≡◌, drop}
use Rattle.app_table.specs.Undo.{all_unended}
use Rattle.app_table.proofs.table.AppTable.unend.Given as goal

abbrev pub invariant-loop-index : goal.invariant-loop-index
invariant-loop-index l = l.self ≡ all_unended (drop l.index l.ended) l.fn.self
