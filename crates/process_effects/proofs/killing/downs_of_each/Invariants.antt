-- The processes so far are told of.
use Rattle.std.proofs.Common.{◌≡◌, take}
use Rattle.process_effects.specs.Kills.{downs_of_each}
use Rattle.process_effects.proofs.killing.downs_of_each.Given as goal

abbrev pub invariant-loop-pid : goal.invariant-loop-pid
invariant-loop-pid l = l.replies.items ≡ downs_of_each l.reason (take l.pid-index l.pids) l.store
