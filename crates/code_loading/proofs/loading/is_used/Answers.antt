-- Nobody uses it, or one does.
use Rattle.std.proofs.Common.{◌∙◌, ap}
use Rattle.process_effects.specs.Uses.{uses}
use Rattle.process_effects.proofs.Alive.{passing, users_alive}
use Rattle.code_loading.specs.Loading.{is_any}
use Rattle.code_loading.proofs.loading.is_used.Goals as goal

pub loop-living-init : goal.loop-living-init
loop-living-init c =
    ap is_any ((λ i. passing (uses c.args.serial) ((c.into_iter-living-iterator.ensures.into_iter_gives ∙ c.iter-living-items.ensures.rest) i)) ∙ users_alive c.args.serial c.args.processes.now)
