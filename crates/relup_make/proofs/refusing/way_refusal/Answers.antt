-- An application against which nothing stands is passed.
use Rattle.std.proofs.Common.{◌≡◌, sym, ap, ◌∙◌, rules}
use Rattle.std.specs.List.{flat_map}
use Rattle.high_instructions.specs.Forms.{Name}
use Rattle.relup_make.specs.Refusals.{appup_refusals, first_of}
use Rattle.relup_make.specs.Ways.{way_of}
use Rattle.relup_make.specs.Work.{appup_of, is_changed, target}
use Rattle.relup_make.proofs.Firsts.{item_fails, item_passes, tested, tested_all}
use Rattle.relup_make.proofs.refusing.way_refusal.Goals as goal

pub loop-app-init : goal.loop-app-init
loop-app-init c =
    let way = way_of c.args.way.now in
    let f = λ (app : Name). appup_refusals way app (appup_of way app) in
    let seen : c.as_slice-apps.result.now ≡ (target way).rel.apps = search rules in
    ap first_of (tested_all (is_changed way) f _ ∙ ap (flat_map (tested (is_changed way) f)) (sym seen))

pub returns-in-Some : goal.returns-in-Some
returns-in-Some c =
    let way = way_of c.args.way.now in
    item_fails (tested (is_changed way) (λ app. appup_refusals way app (appup_of way app))) c.as_slice-apps.result.now c.loop-app.app-index c.app-item.result c.in-Some.error _ c.loop-app-test.true c.app-item.is (sym c.in-Some.is ∙ c.in_ok-error.ensures) c.loop-app.invariant

pub loop-app-preserved : goal.loop-app-preserved
loop-app-preserved c =
    let way = way_of c.args.way.now in
    item_passes (tested (is_changed way) (λ app. appup_refusals way app (appup_of way app))) c.as_slice-apps.result.now c.loop-app.app-index c.app-item.result _ c.loop-app-test.true c.app-item.is (sym c.in_default.is ∙ c.in_ok-error.ensures) c.loop-app.invariant
