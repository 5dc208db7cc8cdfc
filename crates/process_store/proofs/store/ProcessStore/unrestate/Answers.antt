-- The process keeps its name, its pid and its calls.
use Rattle.std.proofs.Common.{refl}
use Rattle.process_store.specs.Changes.{unrestate_living}
use Rattle.process_store.proofs.Changes.{changed_indexed}
use Rattle.process_store.proofs.store.ProcessStore.unrestate.Goals as goal

pub invariant_of-self : goal.invariant_of-self
invariant_of-self c =
    let i = c.self.inside in
    changed_indexed (unrestate_living c.args.state c.args.turns) (λ l. refl) (λ l. refl) (λ l. refl) i.names i.open_calls i.slots c.unrestate_at.new.slots c.args.pid c.self.invariant c.unrestate_at.ensures.unrestated
