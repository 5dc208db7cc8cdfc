-- All that live are left to be looked at.
use Rattle.std.proofs.Common.{◌++◌, ◌∙◌, ap}
use Rattle.process_effects.proofs.Alive.{passing}
use Rattle.code_loading.proofs.Alone.{uses_alone, users_alone}
use Rattle.code_loading.proofs.purging.push_users.Goals as goal

pub loop-pid-init : goal.loop-pid-init
loop-pid-init c =
    let test = uses_alone c.args.serial c.args.others.now in
    ap (λ x. c.args.pids.now.items ++ x) (ap (passing test) (c.into_iter-pid-iterator.ensures.into_iter_gives ∙ c.iter-pid-items.ensures.rest) ∙ users_alone c.args.serial c.args.others.now c.args.processes.now)
