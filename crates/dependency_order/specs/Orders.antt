-- The two orders of a group: dependencies first, and dependants first. Each is a test of a given list.
use Rattle.std.specs.Prelude.{◌≡◌, ◌≤◌, ◌==◌, ◌+◌, ℕ, Bool, true, false, not, ◌&&◌, if◌then◌else◌, List, [], ◌∷◌, ⊤}
use Rattle.std.specs.List.{list_any}
use Rattle.dependency_order.specs.declared.group.Group.{Group}
use Rattle.dependency_order.specs.Groups.{AreGroups}

-- Which vertex waits for which

-- dependencies first: a vertex waits for what it names, itself too
abbrev pub for_dependencies : (ℕ → ℕ → Bool) → ℕ → ℕ → Bool
for_dependencies names p q = names p q

-- dependants first: a vertex waits for what names it, but not for itself
abbrev pub for_dependants : (ℕ → ℕ → Bool) → ℕ → ℕ → Bool
for_dependants names p q = names q p && not (q == p)

-- Orders. `waits p q` is one of the two.

abbrev pub stands : ℕ → List ℕ → Bool
stands p vertices = list_any (λ q. q == p) vertices

-- it waits for none of those that are left
abbrev pub is_free : (ℕ → ℕ → Bool) → List ℕ → ℕ → Bool
is_free waits left p = not (list_any (waits p) left)

-- What comes next of those that are left: the first that waits for none of them, or where each waits for one, as in a
-- circle, simply the first. The first is the least vertex, in whatever order they stand here.
pub data IsNext (waits : ℕ → ℕ → Bool) (left : List ℕ) (p : ℕ) : Type 0 where
  free : is_free waits left p ≡ true →
      ((q : ℕ) → stands q left ≡ true → is_free waits left q ≡ true → p ≤ q) → IsNext waits left p
  circled : ((q : ℕ) → stands q left ≡ true → is_free waits left q ≡ false) →
      ((q : ℕ) → stands q left ≡ true → p ≤ q) → IsNext waits left p

-- each vertex comes next of those that are not before it
abbrev pub IsInOrder : (ℕ → ℕ → Bool) → List ℕ → Type 0
IsInOrder waits [] = ⊤
IsInOrder waits (p ∷ ps) = IsNext waits (p ∷ ps) p × IsInOrder waits ps

-- how many items of a list pass a test
abbrev pub how_many : {A : Type 0} → (A → Bool) → List A → ℕ
how_many test [] = 0
how_many test (x ∷ xs) = (if test x then 1 else 0) + how_many test xs

-- how often a vertex stands in a list
abbrev pub times : ℕ → List ℕ → ℕ
times p vertices = how_many (λ q. q == p) vertices

-- An order of a group: it has the group's members, each as often, and they are in order.
pub record IsOrderOf (waits : ℕ → ℕ → Bool) (group order : List ℕ) : Type 0 where
  pub same : (p : ℕ) → times p order ≡ times p group
  pub in_order : IsInOrder waits order

-- Groups in order

-- a group of vertices is in its two orders
pub record IsOrdered (names : ℕ → ℕ → Bool) (group : List ℕ) (ordered : Group) : Type 0 where
  pub dependencies : IsOrderOf (for_dependencies names) group ordered.dependencies_first
  pub dependants : IsOrderOf (for_dependants names) group ordered.dependants_first

-- groups, one by one
abbrev pub AreOrdered : (ℕ → ℕ → Bool) → List (List ℕ) → List Group → Type 0
AreOrdered names [] [] = ⊤
AreOrdered names [] (o ∷ os) = ⊥
AreOrdered names (g ∷ gs) [] = ⊥
AreOrdered names (g ∷ gs) (o ∷ os) = IsOrdered names g o × AreOrdered names gs os

-- Vertices in groups, each in its two orders: by which depends on which, and how many vertices there are.
pub record AreOrderedGroups (names : ℕ → ℕ → Bool) (count : ℕ) (ordered : List Group) : Type 0 where
  pub groups : List (List ℕ)
  pub are : AreGroups names count groups
  pub are_ordered : AreOrdered names groups ordered
