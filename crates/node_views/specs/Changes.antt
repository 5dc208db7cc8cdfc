-- Where two views of a node differ.
use Rattle.std.specs.Prelude.{◌≡◌, ◌≢◌, ℕ, List, Option, None, option_and_then, slice_get, IsSome}
use Rattle.std.specs.List.{find}
use Rattle.std.specs.Str.{bytes_eq}
use Rattle.node_views.specs.declared.node_view.ModuleView.{ModuleView}
use Rattle.node_views.specs.declared.node_view.NodeView.{NodeView}
use Rattle.node_views.specs.declared.process_view.ProcessView.{ProcessView}

-- The process of a pid, where it lives, and the module of a name, if there is one.

abbrev pub process_of : ℕ → NodeView → Option ProcessView
process_of pid v = option_and_then (λ p. p) (slice_get v.processes pid)

abbrev pub module_of : List ℕ → NodeView → Option ModuleView
module_of name v = find (λ m. bytes_eq m.name name) v.modules

-- A module of a view is another one in the view after, or isn't there; and one is there that wasn't.

abbrev pub IsChangedIn : NodeView → NodeView → List ℕ → Type 0
IsChangedIn before after name = IsSome (module_of name before) × (module_of name before ≢ module_of name after)

abbrev pub HasNewly : NodeView → NodeView → List ℕ → Type 0
HasNewly before after name = IsSome (module_of name after) × (module_of name before ≡ None)
