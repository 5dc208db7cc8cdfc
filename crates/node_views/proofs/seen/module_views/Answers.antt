-- One more in each turn.
use Rattle.std.proofs.Common.{◌≡◌, ◌∙◌, ap, sym, ◌++◌, ◌∷◌, [], List, ℕ, Some, map, take}
use Rattle.std.specs.List.{slice_get}
use Rattle.code_server.specs.declared.modules.Slots.{Slots}
use Rattle.erl_ir.specs.Module.{Forms}
use Rattle.std.specs.Map.Iter.{deref_pair}
use Rattle.std.specs.Option.{option_map}
use Rattle.node_views.specs.Views.{module_view}
use Rattle.node_views.specs.declared.node_view.ModuleView.{ModuleView}
use Rattle.node_views.proofs.Taken.{one_more}
use Rattle.node_views.proofs.seen.module_views.Goals as goal

pub loop-index-preserved : goal.loop-index-preserved
loop-index-preserved c =
    let entries = c.args.modules.now.entries in
    let entry : List ℕ × Slots Forms = (c.in-Some.name.now, c.in-Some.slots.now) in
    let is : slice_get entries c.loop-index.index ≡ Some entry =
    sym c.entry.ensures ∙ ap (λ o. option_map deref_pair o) c.in-Some.is in
    c.in_ok-push.ensures.items ∙ ap (λ (vs : List ModuleView). vs ++ c.in_ok-module_view.field-0 ∷ []) c.loop-index.invariant
    ∙ sym (one_more module_view entries c.loop-index.index entry is
    ∙ ap (λ (v : ModuleView). map module_view (take c.loop-index.index entries) ++ v ∷ []) (sym c.in_ok-module_view.ensures))
