-- One more is resumed.
use Rattle.std.proofs.Common.{◌<◌, false, get_or, length, refl, arith}
use Rattle.std.proofs.lemmas.List.{get_or_default}
use Rattle.process_table.specs.declared.states.Resumed.{Resumed}
use Rattle.process_table.proofs.Resuming.{one_resumed, resumed_all, unresumed_all}
use Rattle.process_table.proofs.states.resume_noting.Goals as goal

pub loop-it-init : goal.loop-it-init
loop-it-init c = record { same = refl; resumed = refl; back = refl }

pub loop-it-preserved : goal.loop-it-preserved
loop-it-preserved c =
    let rs = c.loop-it.resumed in
    let i = c.loop-it.it-index in
    let nobody : Resumed = record { pid = 0; was_suspended = false } in
    let r : Resumed = get_or rs i nobody in
    let within : i < length rs = omega arith in
    one_resumed c.args.resumed.now rs c.args.store.now c.loop-it.store c.resume-it.new.self i r (record r { was_suspended = c.resume-it.result }) within (get_or_default rs i nobody r within) refl c.resume-it.ensures.resumed c.resume-it.ensures.back c.loop-it.invariant

pub returns-clause-resumed : goal.returns-clause-resumed
returns-clause-resumed c =
    resumed_all c.args.resumed.now c.loop-it.resumed c.args.store.now c.loop-it.store c.loop-it.it-index (omega arith) c.loop-it.invariant

pub returns-clause-back : goal.returns-clause-back
returns-clause-back c =
    unresumed_all c.args.resumed.now c.loop-it.resumed c.args.store.now c.loop-it.store c.loop-it.it-index (omega arith) c.loop-it.invariant
