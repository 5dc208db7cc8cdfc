-- One more has another state.
use Rattle.std.proofs.Common.{◌<◌, get_or, length, refl, arith}
use Rattle.std.proofs.lemmas.List.{get_or_default}
use Rattle.std.proofs.lemmas.List.Elements.{All-nil}
use Rattle.process_store.specs.Changes.{CanUnrestate}
use Rattle.process_store.specs.Table.{living}
use Rattle.process_table.specs.declared.states.StateChange.{StateChange}
use Rattle.process_table.proofs.Restating.{all_back, all_fit, all_lost, can_next, one_restated, restated_all}
use Rattle.process_table.proofs.states.restate_all.Goals as goal

pub loop-change-init : goal.loop-change-init
loop-change-init c = record {
  pids = refl;
  turns = refl;
  restated = refl;
  can = c.requires.1;
  done = All-nil (λ (x : StateChange). CanUnrestate x.turns (living x.pid c.args.store.now));
  back = refl;
}

pub restate-requires : goal.restate-requires
restate-requires c =
    let cs = c.loop-change.changes in
    let i = c.loop-change.change-index in
    let change : StateChange = get_or cs i c.change-item.result in
    let within : i < length cs = omega arith in
    can_next c.args.changes.now cs c.args.store.now c.loop-change.store i change within (get_or_default cs i c.change-item.result change within) c.loop-change.invariant

pub loop-change-preserved : goal.loop-change-preserved
loop-change-preserved c =
    let e = c.restate.ensures in
    let cs = c.loop-change.changes in
    let i = c.loop-change.change-index in
    let change : StateChange = get_or cs i c.change-item.result in
    let within : i < length cs = omega arith in
    one_restated c.args.changes.now cs c.args.store.now c.loop-change.store c.restate.new.store i change c.restate.new.change within (get_or_default cs i c.change-item.result change within) c.requires.0 e.pid e.turns e.restated e.back e.fits c.loop-change.invariant

pub returns-clause-restated : goal.returns-clause-restated
returns-clause-restated c =
    restated_all c.args.changes.now c.loop-change.changes c.args.store.now c.loop-change.store c.loop-change.change-index (omega arith) c.loop-change.invariant

pub returns-clause-fits : goal.returns-clause-fits
returns-clause-fits c =
    all_fit c.args.changes.now c.loop-change.changes c.args.store.now c.loop-change.store c.loop-change.change-index (omega arith) c.requires.0 c.loop-change.invariant

pub returns-clause-back : goal.returns-clause-back
returns-clause-back c =
    all_back c.args.changes.now c.loop-change.changes c.args.store.now c.loop-change.store c.loop-change.change-index (omega arith) c.loop-change.invariant

pub returns-clause-pieces : goal.returns-clause-pieces
returns-clause-pieces c =
    let l = c.loop-change in
    let can = all_fit c.args.changes.now l.changes c.args.store.now l.store l.change-index (omega arith) c.requires.0 l.invariant in
    all_lost l.changes c.args.store.now l.store can (all_back c.args.changes.now l.changes c.args.store.now l.store l.change-index (omega arith) l.invariant)
