-- Lists of numbers, by number: seen by this crate's own functions alone.
use Rattle.std.specs.Prelude.{◌≡◌, ◌<◌, ◌-◌, ◌==◌, ◌++◌, ℕ, Bool, false, if◌then◌else◌, List, [], ◌∷◌, length}
use Rattle.std.specs.Prelude.{get_or, slice_get, filter}
use Rattle.std.specs.List.{All, range_with_len}
use Rattle.std.specs.Option.{option_map_or}
use Rattle.dependency_order.specs.declared.vertex.Vertex.{Vertex}
use Rattle.dependency_order.specs.Orders.{stands}

-- the list of a number; an empty one where there is none
abbrev pub row : List (List ℕ) → ℕ → List ℕ
row lists k = get_or lists k []

abbrev pub AreBelow : ℕ → List (List ℕ) → Type 0
AreBelow bound lists = (k : ℕ) → All (λ p. p < bound) (row lists k)

-- the numbers below a count
abbrev pub upto : ℕ → List ℕ
upto count = range_with_len 0 count

-- the last item is this one
abbrev pub ends_with : List ℕ → ℕ → Bool
ends_with items item = option_map_or (λ last. last == item) (slice_get items (length items - 1)) false

-- an item is appended to the lists of some numbers, once to each
pub record IsEntered (old new : List (List ℕ)) (numbers : List ℕ) (item : ℕ) : Type 0 where
  pub many : length new ≡ length old
  pub rows : (k : ℕ) → k < length old → row new k ≡ row old k ++ (if stands k numbers then item ∷ [] else [])

-- The list of each number has those that it has to, of those below a bound
pub record AreEntered (has : ℕ → ℕ → Bool) (count bound : ℕ) (lists : List (List ℕ)) : Type 0 where
  pub many : length lists ≡ count
  pub rows : (k : ℕ) → k < count → row lists k ≡ filter (λ p. has p k) (upto bound)

-- The modules of each vertex, and the vertices of each module
pub record IsRelation (has : ℕ → ℕ → Bool) (count : ℕ) (modules vertices : List (List ℕ)) : Type 0 where
  pub of_vertices : AreEntered (λ k p. has p k) count count modules
  pub of_modules : AreEntered has count count vertices

-- a vertex is on a module, or names it
abbrev pub is_on : List Vertex → ℕ → ℕ → Bool
is_on vertices p k = option_map_or (λ vertex. vertex.module == k) (slice_get vertices p) false

abbrev pub is_named : List Vertex → ℕ → ℕ → Bool
is_named vertices p k = option_map_or (λ vertex. stands k vertex.dependencies) (slice_get vertices p) false
