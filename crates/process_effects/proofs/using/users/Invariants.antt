-- Those so far, and those that use it among the processes that are left, are the users.
use Rattle.std.proofs.Common.{◌≡◌, ◌++◌}
use Rattle.process_effects.specs.Uses.{users, uses}
use Rattle.process_effects.proofs.Alive.{passing}
use Rattle.process_effects.proofs.using.users.Given as goal

abbrev pub invariant-loop-pid : goal.invariant-loop-pid
invariant-loop-pid l = l.pids.items ++ passing (uses l.serial) l.pid-iterator ≡ users l.serial l.store
