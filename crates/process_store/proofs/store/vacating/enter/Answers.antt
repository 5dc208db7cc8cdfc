-- The name goes again.
use Rattle.std.proofs.Common.{◌≡◌, ap, ◌∙◌}
use Rattle.process_store.specs.Indexed.{registered, unregistered}
use Rattle.process_store.proofs.Vacating.{unregistered_back}
use Rattle.process_store.proofs.store.vacating.enter.Goals as goal

pub returns-in-Err-clause-unnamed : goal.returns-in-Err-clause-unnamed
returns-in-Err-clause-unnamed c =
    let name = c.args.living.now.process.name in
    let named : c.register.new.names ≡ registered name c.args.pid c.args.names.now = c.in_ok-register.ensures.ok ∙ ap (λ n. registered n c.args.pid c.args.names.now) c.name-name.ensures in
    c.unregister.ensures ∙ (λ i. unregistered (c.name-name.ensures i) (named i)) ∙ unregistered_back name c.args.pid c.args.names.now c.requires.name
