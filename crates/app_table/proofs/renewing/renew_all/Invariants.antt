-- The specifications so far, and those that are left; what takes those so far back, and holds of them; and there is room for the
-- others.
use Rattle.std.proofs.Common.{◌≡◌, ◌≤◌, ◌+◌, ◌++◌, List, drop, length, take, vec_capacity, vec_len}
use Rattle.std.specs.Vec.Iter.{into_iter_items}
use Rattle.app_table.specs.Renewing.{AreEdits, renewed, unrenewed}
use Rattle.app_table.specs.declared.renewing.ChildEdit.{ChildEdit}
use Rattle.app_table.proofs.renewing.renew_all.Given as goal

abbrev pub invariant-loop-spec : goal.invariant-loop-spec
invariant-loop-spec l = record {
  renewed : take (length l.edits.items) l.row.items ++ renewed (into_iter_items l.spec-iterator) (drop (length l.edits.items) l.row.items) ≡ renewed l.fn.specs.items l.fn.row.items;
  back : unrenewed 0 l.edits.items l.row.items ≡ l.fn.row.items;
  edited : (es : List ChildEdit) → AreEdits (into_iter_items l.spec-iterator) (drop (length l.edits.items) l.row.items) es → AreEdits l.fn.specs.items l.fn.row.items (l.edits.items ++ es);
  within : length l.edits.items ≤ length l.row.items;
  room : vec_len l.row + length (into_iter_items l.spec-iterator) ≤ vec_capacity l.row;
  more : vec_len l.row + length (into_iter_items l.spec-iterator) ≤ vec_len l.fn.row + length l.fn.specs.items;
  same : vec_capacity l.row ≡ vec_capacity l.fn.row;
  noted : vec_len l.edits + length (into_iter_items l.spec-iterator) ≤ vec_capacity l.edits;
}
