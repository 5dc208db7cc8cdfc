-- What is written in the slot of a process that lives is the change of it; where nobody lives nothing changes.
use Rattle.std.proofs.Common.{sym}
use Rattle.std.proofs.lemmas.Result.{on_err_weaker, on_ok_weaker}
use Rattle.process_store.specs.Living.{arrived}
use Rattle.process_store.proofs.Slots.{slots_changed, slots_same, slots_unchanged}
use Rattle.process_store.proofs.slot_changes.arrive_at.Goals as goal

pub returns-in-Some-clause-ok : goal.returns-in-Some-clause-ok
returns-in-Some-clause-ok c =
    on_ok_weaker c.arrive.result (λ done. slots_changed (arrived c.args.message c.args.call) c.args.slots.now c.args.pid c.in-Some.living.now (c.arrive.new.self) c.in-Some.ensures.value done) c.arrive.ensures.ok

pub returns-in-Some-clause-err : goal.returns-in-Some-clause-err
returns-in-Some-clause-err c =
    on_err_weaker c.arrive.result (λ same. slots_same c.args.slots.now c.args.pid c.in-Some.living.now (c.arrive.new.self) c.in-Some.ensures.value same) c.arrive.ensures.err

pub returns-in-None-clause-ok : goal.returns-in-None-clause-ok
returns-in-None-clause-ok c = sym (slots_unchanged (arrived c.args.message c.args.call) c.args.slots.now c.args.pid (sym c.in-None.ensures.value))
