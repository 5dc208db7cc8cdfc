-- What is written in the slot of a process that lives is the change of it.
use Rattle.process_store.specs.Changes.{restate_living, unrestate_living}
use Rattle.process_store.proofs.Slots.{slots_changed, slots_put_back}
use Rattle.process_store.proofs.slot_changes.unrestate_at.Goals as goal

pub returns-clause-unrestated : goal.returns-clause-unrestated
returns-clause-unrestated c =
    slots_changed (unrestate_living c.args.state c.args.turns) c.args.slots.now c.args.pid c.in-Some.living.now (record { process = c.unrestate.new.self; calls = c.in-Some.living.now.calls }) c.in-Some.ensures.value (λ i. record { process = c.unrestate.ensures.unrestated i; calls = c.in-Some.living.now.calls })

pub returns-clause-back : goal.returns-clause-back
returns-clause-back c =
    slots_put_back (restate_living c.unrestate.result c.args.turns) c.args.slots.now c.args.pid c.in-Some.living.now (record { process = c.unrestate.new.self; calls = c.in-Some.living.now.calls }) c.in-Some.ensures.value (λ i. record { process = c.unrestate.ensures.back i; calls = c.in-Some.living.now.calls })
