-- Those that are left end as all do, what has ended is noted, and there is room for the others.
use Rattle.std.proofs.Common.{◌≡◌, ◌≤◌, drop, length}
use Rattle.smallvec.specs.SmallVec.{small_vec_len}
use Rattle.app_table.specs.Applications.{all_ended}
use Rattle.app_table.specs.Undo.{all_unended}
use Rattle.app_table.proofs.table.AppTable.ended.Given as goal

abbrev pub invariant-loop-pid : goal.invariant-loop-pid
invariant-loop-pid l = record {
  ended : all_ended l.reason (drop l.pid-index l.pids) l.self ≡ all_ended l.reason l.pids l.fn.self;
  back : all_unended l.undo.items l.self ≡ l.fn.self;
  noted : small_vec_len l.undo ≤ l.pid-index;
  room : length l.pids ≤ l.undo.capacity;
}
