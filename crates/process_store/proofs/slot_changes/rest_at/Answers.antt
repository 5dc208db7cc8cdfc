-- What is written in the slot of a process that lives is the change of it; where nobody lives nothing changes.
use Rattle.process_store.specs.Changes.{rest_living, unrest_living}
use Rattle.process_store.proofs.Slots.{slots_changed, slots_put_back}
use Rattle.process_store.proofs.slot_changes.rest_at.Goals as goal

pub returns-clause-rested : goal.returns-clause-rested
returns-clause-rested c =
    slots_changed (rest_living c.args.place c.args.rests_in) c.args.slots.now c.args.pid c.in-Some.living.now (record { process = c.rest_next.new.self; calls = c.in-Some.living.now.calls }) c.in-Some.ensures.value (λ i. record { process = c.rest_next.ensures.rested i; calls = c.in-Some.living.now.calls })

pub returns-clause-back : goal.returns-clause-back
returns-clause-back c =
    slots_put_back (unrest_living c.rest_next.result) c.args.slots.now c.args.pid c.in-Some.living.now (record { process = c.rest_next.new.self; calls = c.in-Some.living.now.calls }) c.in-Some.ensures.value (λ i. record { process = c.rest_next.ensures.back i; calls = c.in-Some.living.now.calls })
