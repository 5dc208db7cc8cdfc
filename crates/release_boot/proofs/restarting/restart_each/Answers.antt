-- One more has started, or was passed over.
use Rattle.std.proofs.Common.{◌∙◌, ◌++◌, [], ◌∷◌, ℕ, List, ap, sym, subst, take}
use Rattle.release_boot.proofs.Orders.{both_to_start, each_of_both, one_more}
use Rattle.release_boot.specs.Boot.{EachStarts, to_start}
use Rattle.release_boot.proofs.restarting.restart_each.Goals as goal

pub loop-app-preserved : goal.loop-app-preserved
loop-app-preserved c =
    let code = c.args.code.now in
    let release = c.args.release.now in
    let index = c.loop-app.app-index in
    let app = c.app-item.result in
    let a = c.args.apps.now in
    let t = c.args.processes.now in
    let b = c.restart_one.new.apps in
    let u = c.restart_one.new.processes in
    let here = ap to_start (one_more release index app c.loop-app-test.true c.app-item.is) ∙ both_to_start (take index release) (app ∷ []) in
    let both = each_of_both code (to_start (take index release)) (to_start (app ∷ [])) a c.loop-app.apps b t c.loop-app.processes u c.loop-app.invariant c.in_ok-restart_one.ensures in
    subst (λ (names : List (List ℕ)). EachStarts code names a t b u) (sym here) both
