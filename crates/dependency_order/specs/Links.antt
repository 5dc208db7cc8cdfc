-- Which vertex depends on which (appup(4), DepMods): modules are numbers here, and so are vertices.
use Rattle.std.specs.Prelude.{◌<◌, ◌==◌, ℕ, Bool, false, List, slice_get}
use Rattle.std.specs.List.{All, list_any}
use Rattle.std.specs.Option.{option_map_or}
use Rattle.dependency_order.specs.declared.vertex.Vertex.{Vertex}

-- the one vertex names the module that the other is on
abbrev pub names : Vertex → Vertex → Bool
names one other = list_any (λ m. m == other.module) one.dependencies

-- the same of two vertices by their numbers; where there is none, nothing depends on anything
abbrev pub linked : List Vertex → ℕ → ℕ → Bool
linked vertices p q =
    option_map_or (λ one. option_map_or (λ other. names one other) (slice_get vertices q) false) (slice_get vertices p) false

-- all modules have numbers below a bound
abbrev pub IsNumbered : ℕ → Vertex → Type 0
IsNumbered bound vertex = (vertex.module < bound) × All (λ m. m < bound) vertex.dependencies

abbrev pub AreNumbered : ℕ → List Vertex → Type 0
AreNumbered bound vertices = All (IsNumbered bound) vertices
