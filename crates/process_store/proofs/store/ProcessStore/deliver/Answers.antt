-- The process keeps its name, its pid and its calls, and the message goes again.
use Rattle.std.proofs.Common.{None, refl, sym, subst, IsSome}
use Rattle.process_store.specs.Living.{arrived}
use Rattle.process_store.specs.Table.{living}
use Rattle.process_store.proofs.Arriving.{arrived_fits, table_arrived_back}
use Rattle.process_store.proofs.Changes.{changed_indexed}
use Rattle.process_store.proofs.store.ProcessStore.deliver.Goals as goal

pub invariant_of-self-2 : goal.invariant_of-self-2
invariant_of-self-2 c =
    let i = c.self.inside in
    changed_indexed (arrived c.args.message None) (λ l. refl) (λ l. refl) (λ l. refl) i.names i.open_calls i.slots c.arrive_at.new.slots c.args.pid c.self.invariant c.in_ok-arrive_at.ensures.ok

pub returns-clause-fits : goal.returns-clause-fits
returns-clause-fits c lives =
    let i = c.self.inside in
    arrived_fits c.args.message None i.slots c.arrive_at.new.slots c.args.pid c.in_ok-arrive_at.ensures.ok (subst (λ t. IsSome (living c.args.pid t)) (sym c.self.view_is) lives)

pub returns-clause-back : goal.returns-clause-back
returns-clause-back c =
    let i = c.self.inside in
    table_arrived_back c.args.message None i.slots c.arrive_at.new.slots c.args.pid c.args.self.now c.in_ok-arrive_at.ensures.ok tt c.self.view_is
