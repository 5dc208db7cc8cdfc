-- One application more.
use Rattle.std.proofs.Common.{◌<◌, ◌≤◌, ◌∙◌, arith, length, subst}
use Rattle.std.specs.Prelude.{IfSome}
use Rattle.code_changes.proofs.Renewed.{all_renewed, bad_here, bad_later, next_index, one_renewed}
use Rattle.code_changes.specs.Renewing.{Gives, RenewsOne, supervisor_in}
use Rattle.code_changes.proofs.renewing.renew_apps.Goals as goal

pub loop-index-preserved : goal.loop-index-preserved
loop-index-preserved c =
    let code = c.args.code.now in
    let name = c.args.name.now in
    let apps = c.args.apps.now in
    let now = c.loop-index.apps in
    let after = c.renew_app.new.apps in
    let index = c.loop-index.index in
    let e = c.loop-index.evaluation in
    let f = c.in-Ok.renewed in
    let it = c.loop-index.invariant in
    let within : index < length apps = omega (arith, c.len-index-end.ensures, c.loop-index-test.true) in
    let (a, at, next, rest) = next_index now apps index it.long within it.same in
    record {
      long = c.in-Ok.ensures.others.0 ∙ it.long;
      same = c.in-Ok.ensures.others.1 ∙ rest;
      renewing = λ t sound.
          let r = it.renewing t sound in
          one_renewed code name t apps c.args.evaluation index now after e f a next (omega (arith, within, it.long)) r (subst (λ o. IfSome o (RenewsOne code name index now after t e f)) at (c.in-Ok.ensures.renews t r.evaluated));
      bad = bad_later code name apps index a next (subst (λ o. IfSome o (λ b. Gives code (supervisor_in name b))) at c.in-Ok.ensures.gives) it.bad;
      renewals = λ before x. c.renew_app.ensures.renewals before (it.renewals before x);
    }

pub returns-in-Err-clause-failed : goal.returns-in-Err-clause-failed
returns-in-Err-clause-failed c =
    let apps = c.args.apps.now in
    let now = c.loop-index.apps in
    let index = c.loop-index.index in
    let it = c.loop-index.invariant in
    let within : index < length apps = omega (arith, c.len-index-end.ensures, c.loop-index-test.true) in
    let (a, at, next, rest) = next_index now apps index it.long within it.same in
    bad_here c.in-Err.failure c.args.code.now c.args.name.now now apps index a at next it.bad c.in-Err.ensures.failed

pub returns-in-Err-clause-renewals : goal.returns-in-Err-clause-renewals
returns-in-Err-clause-renewals c = λ before x. c.renew_app.ensures.renewals before (c.loop-index.invariant.renewals before x)

pub returns-clause-renews : goal.returns-clause-renews
returns-clause-renews c =
    let apps = c.args.apps.now in
    let now = c.loop-index.apps in
    let index = c.loop-index.index in
    let it = c.loop-index.invariant in
    let past : length apps ≤ index = omega (arith, c.len-index-end.ensures, c.loop-index-test.false) in
    λ t sound. all_renewed c.args.code.now c.args.name.now t apps c.args.evaluation index now c.loop-index.evaluation past (omega (arith, past, it.long)) (it.renewing t sound)
