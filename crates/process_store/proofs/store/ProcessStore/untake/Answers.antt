-- A process that runs its message no more keeps its name and its calls.
use Rattle.process_store.proofs.Runs.{untook_indexed}
use Rattle.process_store.proofs.store.ProcessStore.untake.Goals as goal

pub invariant_of-self-2 : goal.invariant_of-self-2
invariant_of-self-2 c =
    let i = c.self.inside in
    untook_indexed c.args.position i.names i.open_calls i.slots c.untake_at.new.slots c.args.pid c.self.invariant c.in_ok-untake_at.ensures.ok
