-- The messages go, and then the process runs again.
use Rattle.std.proofs.Common.{ap, ◌∙◌}
use Rattle.process_effects.specs.Parted.{all_unsent}
use Rattle.process_store.specs.Changes.{unrest_living}
use Rattle.process_store.specs.Table.{changed}
use Rattle.process_effects.proofs.resting.take_back.Goals as goal

pub returns : goal.returns
returns c =
    let pid = c.args.rested.pid in
    c.unrest.ensures ∙ ap (λ t. changed (unrest_living c.run_with.result) pid t) (c.unsend_all.ensures ∙ ap (λ rs. all_unsent rs c.args.store.now) c.as_slice.ensures) ∙ ap (λ ran. changed (unrest_living ran) pid (all_unsent c.args.rested.receivers c.args.store.now)) c.run_with.ensures
