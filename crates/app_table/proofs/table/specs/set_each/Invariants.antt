-- Those that are left are put in place as all are, what was replaced is what they stand in place of, and gives back, and there is room for the others.
use Rattle.std.proofs.Common.{◌≡◌, ◌≤◌, ◌+◌, ◌++◌, List, length, vec_capacity, vec_len}
use Rattle.std.specs.Vec.Iter.{into_iter_items}
use Rattle.app_table.specs.Applications.{Application}
use Rattle.app_table.specs.Changes.{replaced_by, specs_set}
use Rattle.app_table.specs.Undo.{GivesBack}
use Rattle.app_table.proofs.table.specs.set_each.Given as goal

abbrev pub invariant-loop-spec : goal.invariant-loop-spec
invariant-loop-spec l = record {
  set : specs_set (into_iter_items l.spec-iterator) l.list.items ≡ specs_set l.fn.specs.items l.fn.list.items;
  former : l.replaced.items ++ replaced_by (into_iter_items l.spec-iterator) l.list.items ≡ l.fn.replaced.items ++ replaced_by l.fn.specs.items l.fn.list.items;
  back : (before : List Application) → GivesBack before l.fn.replaced.items l.fn.list.items → GivesBack before l.replaced.items l.list.items;
  room : vec_len l.list + length (into_iter_items l.spec-iterator) ≤ vec_capacity l.list;
  noted : vec_len l.replaced + length (into_iter_items l.spec-iterator) ≤ vec_capacity l.replaced;
}
