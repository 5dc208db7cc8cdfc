-- The others are suspended as all would be.
use Rattle.std.proofs.Common.{◌≡◌, drop}
use Rattle.process_table.specs.States.{all_suspended}
use Rattle.process_table.proofs.states.suspend_all.Given as goal

abbrev pub invariant-loop-pid : goal.invariant-loop-pid
invariant-loop-pid l = all_suspended (drop l.pid-index l.pids) l.store ≡ all_suspended l.pids l.fn.store
