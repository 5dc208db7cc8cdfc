-- One more has its former state again.
use Rattle.std.proofs.Common.{◌<◌, get_or, length, refl, arith}
use Rattle.std.proofs.lemmas.List.{get_or_default}
use Rattle.process_table.specs.declared.states.StateChange.{StateChange}
use Rattle.process_table.proofs.Restating.{can_back_next, one_unrestated, unrestated_all}
use Rattle.process_table.proofs.states.unrestate_all.Goals as goal

pub loop-change-init : goal.loop-change-init
loop-change-init c = record { pids = refl; unrestated = refl; can = c.requires.1 }

pub unrestate-requires : goal.unrestate-requires
unrestate-requires c =
    let cs = c.loop-change.changes in
    let i = c.loop-change.change-index in
    let change : StateChange = get_or cs i c.change-item.result in
    let within : i < length cs = omega arith in
    can_back_next c.args.changes.now cs c.args.store.now c.loop-change.store i change within (get_or_default cs i c.change-item.result change within) c.loop-change.invariant

pub loop-change-preserved : goal.loop-change-preserved
loop-change-preserved c =
    let cs = c.loop-change.changes in
    let i = c.loop-change.change-index in
    let change : StateChange = get_or cs i c.change-item.result in
    let within : i < length cs = omega arith in
    one_unrestated c.args.changes.now cs c.args.store.now c.loop-change.store c.unrestate.new.store i change c.unrestate.new.change within (get_or_default cs i c.change-item.result change within) c.requires.0 c.unrestate.ensures.pid c.unrestate.ensures.unrestated c.loop-change.invariant

pub returns : goal.returns
returns c =
    unrestated_all c.args.changes.now c.loop-change.changes c.args.store.now c.loop-change.store c.loop-change.change-index (omega arith) c.loop-change.invariant
