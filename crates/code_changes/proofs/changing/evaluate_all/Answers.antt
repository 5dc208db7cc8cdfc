-- One module more.
use Rattle.std.proofs.Common.{◌+◌, drop}
use Rattle.std.proofs.lemmas.List.{drop_all}
use Rattle.code_changes.proofs.Upgraded.{all_reached, first_stops, one_reached}
use Rattle.code_changes.specs.Changing.{script}
use Rattle.script_state.proofs.Firsts.{from_here}
use Rattle.code_changes.proofs.changing.evaluate_all.Goals as goal

pub loop-module-preserved : goal.loop-module-preserved
loop-module-preserved c =
    let s = script c.args.direction c.args.versions.now c.args.suspended.now in
    let ms = c.args.modules.now in
    let index = c.loop-module.module-index in
    let m = c.module-item.result in
    let next = from_here ms index m c.loop-module-test.true c.module-item.is in
    let (u, up, lists, comes) = c.in-Ok.ensures.upgrades in
    record {
      evaluated = c.in-Ok.ensures.evaluated;
      reached = one_reached c.args.code.now s c.args.processes.now ms c.args.apps.now m (drop (index + 1) ms) (drop index ms) c.loop-module.apps c.evaluate_module.new.apps c.loop-module.evaluation c.in-Ok.evaluated u next c.loop-module.invariant.reached up lists comes;
      renewals = λ before x. c.evaluate_module.ensures.renewals before (c.loop-module.invariant.renewals before x);
    }

pub returns-in-Err-clause-stops : goal.returns-in-Err-clause-stops
returns-in-Err-clause-stops c =
    let s = script c.args.direction c.args.versions.now c.args.suspended.now in
    let ms = c.args.modules.now in
    let index = c.loop-module.module-index in
    let m = c.module-item.result in
    let next = from_here ms index m c.loop-module-test.true c.module-item.is in
    first_stops c.in-Err.failure c.args.code.now s c.args.processes.now ms c.args.apps.now m (drop (index + 1) ms) (drop index ms) c.loop-module.apps c.loop-module.evaluation next c.loop-module.invariant.reached c.in-Err.ensures.stops

pub returns-in-Err-clause-renewals : goal.returns-in-Err-clause-renewals
returns-in-Err-clause-renewals c = λ before x. c.evaluate_module.ensures.renewals before (c.loop-module.invariant.renewals before x)

pub returns-clause-upgrades : goal.returns-clause-upgrades
returns-clause-upgrades c =
    let s = script c.args.direction c.args.versions.now c.args.suspended.now in
    let ms = c.args.modules.now in
    let index = c.loop-module.module-index in
    all_reached c.args.code.now s c.args.processes.now ms c.args.apps.now (drop index ms) c.loop-module.apps c.loop-module.evaluation (drop_all index ms c.loop-module-test.false) c.loop-module.invariant.reached
