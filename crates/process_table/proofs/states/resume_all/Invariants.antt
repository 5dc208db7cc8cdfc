-- The others are resumed as all would be.
use Rattle.std.proofs.Common.{◌≡◌, drop}
use Rattle.process_table.specs.States.{all_resumed}
use Rattle.process_table.proofs.states.resume_all.Given as goal

abbrev pub invariant-loop-pid : goal.invariant-loop-pid
invariant-loop-pid l = all_resumed (drop l.pid-index l.pids) l.store ≡ all_resumed l.pids l.fn.store
