-- What is written in the slot of a process that lives is the change of it; where nobody lives nothing changes.
use Rattle.std.proofs.Common.{sym}
use Rattle.process_store.specs.Changes.{suspend_living}
use Rattle.process_store.proofs.Slots.{slots_changed, slots_unchanged}
use Rattle.process_store.proofs.slot_changes.suspend_at.Goals as goal

pub returns-in-Some : goal.returns-in-Some
returns-in-Some c =
    slots_changed (suspend_living) c.args.slots.now c.args.pid c.in-Some.living.now (record { process = c.suspend.new.self; calls = c.in-Some.living.now.calls }) c.in-Some.ensures.value (λ i. record { process = c.suspend.ensures i; calls = c.in-Some.living.now.calls })

pub returns-in_default : goal.returns-in_default
returns-in_default c = sym (slots_unchanged (suspend_living) c.args.slots.now c.args.pid (sym c.in_default.ensures.value))
