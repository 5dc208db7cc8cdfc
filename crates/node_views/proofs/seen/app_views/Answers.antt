-- One more in each turn.
use Rattle.std.proofs.Common.{arith, rules, ◌≡◌, ◌∙◌, ap, sym, ◌++◌, ◌∷◌, [], List, Some, map, take}
use Rattle.std.specs.List.{slice_get}
use Rattle.std.specs.Option.{option_copied}
use Rattle.node_views.specs.Views.{app_view}
use Rattle.node_views.specs.declared.node_view.AppView.{AppView}
use Rattle.node_views.proofs.Taken.{one_more}
use Rattle.node_views.proofs.seen.app_views.Goals as goal

pub loop-index-preserved : goal.loop-index-preserved
loop-index-preserved c =
    let app = c.in-Some.app.now in
    let is : slice_get c.args.apps.now c.loop-index.index ≡ Some app = sym c.app.ensures ∙ ap option_copied c.in-Some.is in
    let view : AppView = record { name = c.in_ok-copy.field-0; is_started = c.is_started.result } in
    let same : app_view app ≡ view = grind (arith, rules) in
    c.in_ok-push.ensures.items ∙ ap (λ (vs : List AppView). vs ++ view ∷ []) c.loop-index.invariant
    ∙ sym (one_more app_view c.args.apps.now c.loop-index.index app is
    ∙ ap (λ (v : AppView). map app_view (take c.loop-index.index c.args.apps.now) ++ v ∷ []) same)
