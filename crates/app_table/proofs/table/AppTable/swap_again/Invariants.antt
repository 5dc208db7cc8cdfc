-- Those from here on are put in place as all are, and leave what all leave.
use Rattle.std.proofs.Common.{◌≡◌, ◌++◌, drop, take}
use Rattle.app_table.specs.Undo.{all_left, all_put}
use Rattle.app_table.proofs.table.AppTable.swap_again.Given as goal

abbrev pub invariant-loop-at : goal.invariant-loop-at
invariant-loop-at l = record {
  set : all_put (drop l.at l.fn.replaced) l.self ≡ all_put l.fn.replaced l.fn.self;
  left : take l.at l.replaced ++ all_left (drop l.at l.fn.replaced) l.self ≡ all_left l.fn.replaced l.fn.self;
  rest : drop l.at l.replaced ≡ drop l.at l.fn.replaced;
}
