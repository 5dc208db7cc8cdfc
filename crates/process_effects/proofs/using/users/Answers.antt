-- Those that use it among all processes that live are the users.
use Rattle.std.proofs.Common.{◌++◌, ◌∙◌}
use Rattle.process_effects.specs.Uses.{uses}
use Rattle.process_effects.proofs.Alive.{passing, users_alive}
use Rattle.process_effects.proofs.using.users.Goals as goal

pub loop-pid-init : goal.loop-pid-init
loop-pid-init c =
    (λ i. c.new-pids.ensures.items i ++ passing (uses c.args.serial) ((c.into_iter-pid-iterator.ensures.into_iter_gives ∙ c.iter-pid-items.ensures.rest) i)) ∙ users_alive c.args.serial c.args.store.now
