-- Groups: vertices that are joined by a chain of dependencies belong together. `names p q` says that the one vertex
-- depends on the other.
use Rattle.std.specs.Prelude.{◌≡◌, ◌≤◌, ◌<◌, ◌==◌, ℕ, Bool, true, List, length, map, filter, slice_index}
use Rattle.std.specs.List.{enumerate_from}

-- a chain from one vertex to another, each link of which is a dependency, this way or that way
pub data IsJoined (names : ℕ → ℕ → Bool) (p : ℕ) : ℕ → Type 0 where
  itself : IsJoined names p p
  naming : {q r : ℕ} → IsJoined names p q → names q r ≡ true → IsJoined names p r
  named : {q r : ℕ} → IsJoined names p q → names r q ≡ true → IsJoined names p r

-- the first member of the group of a vertex: the least vertex that it is joined with
pub record IsFirst (names : ℕ → ℕ → Bool) (p first : ℕ) : Type 0 where
  pub joined : IsJoined names p first
  pub least : (q : ℕ) → IsJoined names p q → first ≤ q

-- the first members of the groups of all vertices
pub record AreFirsts (names : ℕ → ℕ → Bool) (count : ℕ) (firsts : List ℕ) : Type 0 where
  pub many : length firsts ≡ count
  pub each : (p : ℕ) → p < count → IsFirst names p (slice_index firsts p)

-- the vertices whose group has this first member, in order
abbrev pub members : List ℕ → ℕ → List ℕ
members firsts first = map (λ e. e.0) (filter (λ e. e.1 == first) (enumerate_from 0 firsts))

-- the vertices that are first members, in order
abbrev pub leaders : List ℕ → List ℕ
leaders firsts = map (λ e. e.0) (filter (λ e. e.1 == e.0) (enumerate_from 0 firsts))

-- The groups, in the order of their first members, each in the order of the vertices
pub record AreGroups (names : ℕ → ℕ → Bool) (count : ℕ) (groups : List (List ℕ)) : Type 0 where
  pub firsts : List ℕ
  pub are : AreFirsts names count firsts
  pub is : groups ≡ map (members firsts) (leaders firsts)
