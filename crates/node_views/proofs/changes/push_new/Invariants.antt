-- The names so far that the view before has not, behind those that were there.
use Rattle.std.proofs.Common.{◌≡◌, ◌↔◌, ◌⊎◌, ◌<◌, ℕ, List, Contains, Some}
use Rattle.std.specs.List.{slice_get}
use Rattle.node_views.specs.Changes.{HasNewly}
use Rattle.node_views.specs.declared.node_view.ModuleView.{ModuleView}
use Rattle.node_views.proofs.changes.push_new.Given as goal

abbrev pub invariant-loop-module : goal.invariant-loop-module
invariant-loop-module l = (name : List ℕ) → Contains l.found.items name ↔ (Contains l.fn.found.items name ⊎
    ((i : ℕ) × (m : ModuleView) × (i < l.module-index) × (slice_get l.module-items i ≡ Some m) × (m.name ≡ name)
    × HasNewly l.before l.after name))
