-- One more has started, or it is the first that doesn't.
use Rattle.std.proofs.Common.{◌∙◌, ◌+◌, ◌++◌, [], ◌∷◌, ℕ, List, ap, drop, sym, subst, take}
use Rattle.release_boot.proofs.Orders.{all_around, both_start, both_to_start, failing, one_more, one_to_start, passed_on}
use Rattle.release_boot.specs.Boot.{AllStart, Fails, to_start}
use Rattle.release_boot.proofs.booting.start_all.Goals as goal

pub loop-app-preserved : goal.loop-app-preserved
loop-app-preserved c =
    let code = c.args.code.now in
    let release = c.args.release.now in
    let index = c.loop-app.app-index in
    let app = c.app-item.result in
    let a = c.args.apps.now in
    let t = c.args.processes.now in
    let b = c.start_one.new.apps in
    let u = c.start_one.new.processes in
    let here = ap to_start (one_more release index app c.loop-app-test.true c.app-item.is) ∙ both_to_start (take index release) (app ∷ []) in
    let both = both_start code (to_start (take index release)) (to_start (app ∷ [])) a c.loop-app.apps b t c.loop-app.processes u c.loop-app.invariant c.in_ok-start_one.ensures.started in
    subst (λ (names : List (List ℕ)). AllStart code names a t b u) (sym here) both

pub returns-in_err-start_one-clause-failed : goal.returns-in_err-start_one-clause-failed
returns-in_err-start_one-clause-failed c =
    let code = c.args.code.now in
    let release = c.args.release.now in
    let index = c.loop-app.app-index in
    let app = c.app-item.result in
    let a = c.args.apps.now in
    let t = c.args.processes.now in
    let e = c.in_err-start_one.field-0.0 in
    let front = to_start (take index release) in
    let behind = to_start (drop (index + 1) release) in
    let whole = ap to_start (all_around release index app c.loop-app-test.true c.app-item.is) ∙ both_to_start (take index release) (app ∷ drop (index + 1) release) ∙ ap (λ (names : List (List ℕ)). front ++ names) (one_to_start app (drop (index + 1) release)) in
    let fails = failing e code front (to_start (app ∷ [])) behind a c.loop-app.apps t c.loop-app.processes c.loop-app.invariant c.in_err-start_one.ensures.failed in
    passed_on (λ e. Fails e code (to_start release) a t) c.from_residual.result e c.from_residual.ensures (subst (λ (names : List (List ℕ)). Fails e code names a t) (sym whole) fails)
