-- What is written in the slot of a process that lives is the change of it; where nobody lives nothing changes.
use Rattle.std.proofs.Common.{sym}
use Rattle.process_store.specs.Changes.{closed_living}
use Rattle.process_store.proofs.Slots.{slots_changed, slots_unchanged}
use Rattle.process_store.proofs.slot_changes.close_at.Goals as goal

pub returns-in-Some : goal.returns-in-Some
returns-in-Some c =
    slots_changed (closed_living c.args.call) c.args.slots.now c.args.pid c.in-Some.living.now (record { process = c.in-Some.living.now.process; calls = c.remove.new.self }) c.in-Some.ensures.value (λ i. record { process = c.in-Some.living.now.process; calls = c.remove.ensures i })

pub returns-in_default : goal.returns-in_default
returns-in_default c = sym (slots_unchanged (closed_living c.args.call) c.args.slots.now c.args.pid (sym c.in_default.ensures.value))
