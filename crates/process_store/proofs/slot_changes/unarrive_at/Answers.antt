-- What is written in the slot of a process that lives is the change of it; where nobody lives nothing changes.
use Rattle.std.proofs.Common.{sym}
use Rattle.process_store.specs.Living.{unarrived}
use Rattle.process_store.proofs.Slots.{slots_changed, slots_unchanged}
use Rattle.process_store.proofs.slot_changes.unarrive_at.Goals as goal

pub returns-in-Some : goal.returns-in-Some
returns-in-Some c =
    slots_changed (unarrived c.args.call) c.args.slots.now c.args.pid c.in-Some.living.now (c.unarrive.new.self) c.in-Some.ensures.value c.unarrive.ensures

pub returns-in_default : goal.returns-in_default
returns-in_default c = sym (slots_unchanged (unarrived c.args.call) c.args.slots.now c.args.pid (sym c.in_default.ensures.value))
