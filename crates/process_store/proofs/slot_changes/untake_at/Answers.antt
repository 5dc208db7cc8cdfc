-- What is written in the slot of a process that lives is the change of it; where nobody lives nothing changes.
use Rattle.std.proofs.lemmas.Result.{on_err_weaker, on_ok_weaker}
use Rattle.process_store.specs.Living.{untook}
use Rattle.process_store.proofs.Slots.{slots_changed, slots_same}
use Rattle.process_store.proofs.slot_changes.untake_at.Goals as goal

pub returns-in-Some-clause-ok : goal.returns-in-Some-clause-ok
returns-in-Some-clause-ok c =
    on_ok_weaker c.untake.result (λ done. slots_changed (untook c.args.position) c.args.slots.now c.args.pid c.in-Some.living.now (c.untake.new.self) c.in-Some.ensures.value done) c.untake.ensures.ok

pub returns-in-Some-clause-err : goal.returns-in-Some-clause-err
returns-in-Some-clause-err c =
    on_err_weaker c.untake.result (λ same. slots_same c.args.slots.now c.args.pid c.in-Some.living.now (c.untake.new.self) c.in-Some.ensures.value same) c.untake.ensures.err
