-- Those from here on are put back, and those before are as they were.
use Rattle.std.proofs.Common.{◌≡◌, ◌++◌, drop, take}
use Rattle.app_table.specs.Changes.{all_replaced}
use Rattle.app_table.specs.Undo.{all_given_up}
use Rattle.app_table.proofs.table.AppTable.swap_back.Given as goal

abbrev pub invariant-loop-at : goal.invariant-loop-at
invariant-loop-at l = record {
  set : l.self ≡ all_replaced (drop l.at l.fn.replaced) l.fn.self;
  left : l.replaced ≡ take l.at l.fn.replaced ++ all_given_up (drop l.at l.fn.replaced) l.fn.self;
}
