-- Those that were found, and those that are left.
use Rattle.std.proofs.Common.{◌≡◌, ◌++◌}
use Rattle.process_effects.proofs.Alive.{passing}
use Rattle.process_effects.specs.Uses.{users}
use Rattle.code_loading.proofs.Alone.{uses_alone}
use Rattle.code_loading.specs.Several.{without_all_users}
use Rattle.code_loading.proofs.purging.push_users.Given as goal

abbrev pub invariant-loop-pid : goal.invariant-loop-pid
invariant-loop-pid l =
    l.pids.items ++ passing (uses_alone l.serial l.others) l.pid-iterator ≡ l.fn.pids.items ++ users l.serial (without_all_users l.others l.processes)
