-- The pids so far, and those that are left; and there is room for them.
use Rattle.std.proofs.Common.{◌≡◌, ◌≤◌, ◌+◌, ◌-◌, ◌++◌, drop, length, vec_capacity, vec_len}
use Rattle.suspensions.proofs.suspending.append.Given as goal

abbrev pub invariant-loop-pid : goal.invariant-loop-pid
invariant-loop-pid l = record {
  pids : l.pids.items ++ drop l.pid-index l.more ≡ l.fn.pids.items ++ l.more;
  room : vec_len l.pids + (length l.more - l.pid-index) ≤ vec_capacity l.pids;
}
