-- The last process had no calls, and its name is free.
use Rattle.std.proofs.Common.{◌-◌, ap, sym, ◌∙◌, subst}
use Rattle.process_store.specs.Indexed.{unregistered}
use Rattle.process_store.specs.Inverses.{WasStarted}
use Rattle.process_store.specs.Table.{living, next_pid}
use Rattle.process_store.proofs.Starting.{unstarted_indexed}
use Rattle.process_store.proofs.store.ProcessStore.remove_last.Goals as goal

pub invariant_of-self : goal.invariant_of-self
invariant_of-self c =
    let i = c.self.inside in
    unstarted_indexed i.names c.unregister.new.names i.open_calls i.slots c.pop.new.self c.in-Some.living c.self.invariant (sym c.pop.ensures.last ∙ c.in-Some.is) (subst (λ t. WasStarted (living (next_pid t - 1) t)) (sym c.self.view_is) c.requires) (c.unregister.ensures ∙ ap (λ n. unregistered n i.names) c.name.ensures) c.pop.ensures.rest
