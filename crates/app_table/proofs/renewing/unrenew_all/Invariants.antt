-- Those that are left give the children that all give.
use Rattle.std.proofs.Common.{◌≡◌, ◌≤◌, vec_capacity, vec_len}
use Rattle.app_table.specs.Renewing.{unrenewed}
use Rattle.app_table.proofs.renewing.unrenew_all.Given as goal

abbrev pub invariant-loop-at : goal.invariant-loop-at
invariant-loop-at l = record {
  undone : unrenewed 0 l.left.items l.row.items ≡ unrenewed 0 l.fn.edits l.fn.row.items;
  long : vec_len l.left ≡ l.at;
  room : vec_len l.row ≤ vec_len l.fn.row;
  same : vec_capacity l.row ≡ vec_capacity l.fn.row;
}
