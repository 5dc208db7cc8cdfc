-- An order dealt out to the groups' first members: seen by this crate's own functions alone.
use Rattle.std.specs.Prelude.{◌≡◌, ◌<◌, ◌==◌, ℕ, Bool, List, length, get_or, filter}
use Rattle.dependency_order.specs.declared.group.Group.{Group}
use Rattle.dependency_order.specs.Lists.{row}

-- the group of a vertex has this first member
abbrev pub is_of : List ℕ → ℕ → ℕ → Bool
is_of firsts f p = get_or firsts p 0 == f

-- to each first member those of its group, in order
pub record AreDealt (firsts order : List ℕ) (lists : List (List ℕ)) : Type 0 where
  pub many : length lists ≡ length firsts
  pub rows : (f : ℕ) → f < length firsts → row lists f ≡ filter (is_of firsts f) order

abbrev pub group_of : List (List ℕ) → List (List ℕ) → ℕ → Group
group_of dependencies dependants f = record { dependencies_first = row dependencies f; dependants_first = row dependants f }

-- the part of two orders that is of the group
abbrev pub part_of : List ℕ → List ℕ → List ℕ → ℕ → Group
part_of firsts dependencies dependants f =
    record { dependencies_first = filter (is_of firsts f) dependencies; dependants_first = filter (is_of firsts f) dependants }
