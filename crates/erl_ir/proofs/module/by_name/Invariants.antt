-- What is in the table and what is left are the functions, and no two in the table have one key.
use Rattle.std.proofs.Common.{◌≡◌, ◌++◌}
use Rattle.std.specs.List.{IsDistinct}
use Rattle.std.specs.Map.{keys_of}
use Rattle.std.specs.Vec.Iter.{into_iter_items}
use Rattle.erl_ir.specs.Module.{key_eq}
use Rattle.erl_ir.proofs.module.by_name.Given as goal

abbrev pub invariant-loop-entry : goal.invariant-loop-entry
invariant-loop-entry l =
    (goal.iterator-loop-entry).can_next l.entry-iterator ×
    (goal.iterator-loop-entry).is_finite l.entry-iterator ×
    (l.table.entries ++ into_iter_items l.entry-iterator ≡ l.fn.functions.items) × IsDistinct key_eq (keys_of l.table.entries)
