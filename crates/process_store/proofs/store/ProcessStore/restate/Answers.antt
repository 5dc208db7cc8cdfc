-- The process keeps its name, its pid and its calls.
use Rattle.std.proofs.Common.{refl, sym, subst}
use Rattle.process_store.specs.Changes.{CanRestate, restate_living}
use Rattle.process_store.specs.Table.{living}
use Rattle.process_store.proofs.Changes.{changed_indexed, restated_fits}
use Rattle.process_store.proofs.store.ProcessStore.restate.Goals as goal

pub invariant_of-self : goal.invariant_of-self
invariant_of-self c =
    let i = c.self.inside in
    changed_indexed (restate_living c.args.state c.args.turns) (λ l. refl) (λ l. refl) (λ l. refl) i.names i.open_calls i.slots c.restate_at.new.slots c.args.pid c.self.invariant c.restate_at.ensures.restated

pub returns-clause-fits : goal.returns-clause-fits
returns-clause-fits c =
    let i = c.self.inside in
    restated_fits c.args.state c.args.turns i.slots c.restate_at.new.slots c.args.pid (subst (λ t. CanRestate c.args.turns (living c.args.pid t)) (sym c.self.view_is) c.requires) c.restate_at.ensures.restated
