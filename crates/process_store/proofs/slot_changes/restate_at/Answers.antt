-- What is written in the slot of a process that lives is the change of it.
use Rattle.process_store.specs.Changes.{restate_living, unrestate_living}
use Rattle.process_store.proofs.Slots.{slots_changed, slots_put_back}
use Rattle.process_store.proofs.slot_changes.restate_at.Goals as goal

pub returns-clause-restated : goal.returns-clause-restated
returns-clause-restated c =
    slots_changed (restate_living c.args.state c.args.turns) c.args.slots.now c.args.pid c.in-Some.living.now (record { process = c.restate.new.self; calls = c.in-Some.living.now.calls }) c.in-Some.ensures.value (λ i. record { process = c.restate.ensures.restated i; calls = c.in-Some.living.now.calls })

pub returns-clause-back : goal.returns-clause-back
returns-clause-back c =
    slots_put_back (unrestate_living c.restate.result c.args.turns) c.args.slots.now c.args.pid c.in-Some.living.now (record { process = c.restate.new.self; calls = c.in-Some.living.now.calls }) c.in-Some.ensures.value (λ i. record { process = c.restate.ensures.back i; calls = c.in-Some.living.now.calls })
