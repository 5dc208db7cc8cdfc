-- What is written in the slot of a process that lives is the change of it; where nobody lives nothing changes.
use Rattle.std.proofs.Common.{sym}
use Rattle.process_store.specs.Living.{run}
use Rattle.process_store.proofs.Slots.{slots_changed, slots_unchanged}
use Rattle.process_store.proofs.slot_changes.run_at.Goals as goal

pub returns-in-Some : goal.returns-in-Some
returns-in-Some c =
    slots_changed (run c.args.position c.args.entry_serial c.args.code) c.args.slots.now c.args.pid c.in-Some.living.now (c.run.new.self) c.in-Some.ensures.value c.run.ensures

pub returns-in_default : goal.returns-in_default
returns-in_default c = sym (slots_unchanged (run c.args.position c.args.entry_serial c.args.code) c.args.slots.now c.args.pid (sym c.in_default.ensures.value))
