-- The process keeps its name, its pid and its calls.
use Rattle.std.proofs.Common.{None, refl}
use Rattle.process_store.specs.Living.{unarrived}
use Rattle.process_store.proofs.Changes.{changed_indexed}
use Rattle.process_store.proofs.store.ProcessStore.undeliver.Goals as goal

pub invariant_of-self : goal.invariant_of-self
invariant_of-self c =
    let i = c.self.inside in
    changed_indexed (unarrived None) (λ l. refl) (λ l. refl) (λ l. refl) i.names i.open_calls i.slots c.unarrive_at.new.slots c.args.pid c.self.invariant c.unarrive_at.ensures
