-- The process keeps its name, its pid and its calls, and its turn is one on.
use Rattle.std.proofs.Common.{refl}
use Rattle.process_store.specs.Changes.{rest_living}
use Rattle.process_store.proofs.Changes.{changed_indexed, rested_turned}
use Rattle.process_store.proofs.store.ProcessStore.rest_next.Goals as goal

pub invariant_of-self : goal.invariant_of-self
invariant_of-self c =
    let i = c.self.inside in
    changed_indexed (rest_living c.args.place c.args.rests_in) (λ l. refl) (λ l. refl) (λ l. refl) i.names i.open_calls i.slots c.rest_at.new.slots c.args.pid c.self.invariant c.rest_at.ensures.rested

pub returns-clause-fits : goal.returns-clause-fits
returns-clause-fits c = rested_turned c.args.place c.args.rests_in c.self.inside.slots c.rest_at.new.slots c.args.pid c.rest_at.ensures.rested
