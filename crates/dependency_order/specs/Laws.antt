-- The laws of groups and their orders.
use Rattle.std.specs.Prelude.{◌≡◌, ◌<◌, ℕ, Bool, List, IsPermutation, flat_map, slice_index}
use Rattle.std.specs.List.{range_with_len}
use Rattle.dependency_order.specs.declared.group.Group.{Group}
use Rattle.dependency_order.specs.Groups.{AreFirsts, IsJoined}
use Rattle.dependency_order.specs.Orders.{AreOrderedGroups}

-- Vertices are in one group exactly where they are joined.
abbrev pub GroupsAreTheJoined : Type 0
GroupsAreTheJoined =
    (names : ℕ → ℕ → Bool) (count : ℕ) (firsts : List ℕ) → AreFirsts names count firsts →
    (p q : ℕ) → p < count → q < count →
    (IsJoined names p q → slice_index firsts p ≡ slice_index firsts q) ×
    (slice_index firsts p ≡ slice_index firsts q → IsJoined names p q)

-- In either order the groups, one behind the other, have each vertex once.
abbrev pub EachVertexStandsOnce : Type 0
EachVertexStandsOnce =
    (names : ℕ → ℕ → Bool) (count : ℕ) (ordered : List Group) → AreOrderedGroups names count ordered →
    IsPermutation (range_with_len 0 count) (flat_map (λ g. g.dependencies_first) ordered) ×
    IsPermutation (range_with_len 0 count) (flat_map (λ g. g.dependants_first) ordered)

-- There are no two ways to put vertices in groups and the groups in order.
abbrev pub OrderedGroupsAreOne : Type 0
OrderedGroupsAreOne =
    (names : ℕ → ℕ → Bool) (count : ℕ) (one another : List Group) → AreOrderedGroups names count one →
    AreOrderedGroups names count another → one ≡ another
