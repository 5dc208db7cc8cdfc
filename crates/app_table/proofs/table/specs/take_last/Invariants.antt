-- Those that are taken stand behind those that are left, from the last to the first.
use Rattle.std.proofs.Common.{◌≡◌, ◌≤◌, ◌++◌, length, reverse, vec_capacity}
use Rattle.app_table.proofs.table.specs.take_last.Given as goal

abbrev pub invariant-loop-at : goal.invariant-loop-at
invariant-loop-at l = record {
  whole : l.list.items ++ reverse l.taken.items ≡ l.fn.list.items;
  count : length l.taken.items ≡ l.at;
  room : l.count ≤ vec_capacity l.taken;
}
