-- Which vertices are left, and what is known of them: seen by this crate's own functions alone.
use Rattle.std.specs.Prelude.{◌≡◌, ◌<◌, ◌≤◌, ◌+◌, ◌==◌, ◌&&◌, ◌||◌, ◌⊎◌, ℕ, Bool, true, false, not, if◌then◌else◌}
use Rattle.std.specs.Prelude.{List, ◌++◌, length, get_or, filter}
use Rattle.std.specs.List.{list_any}
use Rattle.std.specs.Ordering.{nat_cmp}
use Rattle.std.specs.BTreeSet.{BTreeSet, contains}
use Rattle.dependency_order.specs.declared.order.Left.{Left}
use Rattle.dependency_order.specs.Lists.{row, upto}
use Rattle.dependency_order.specs.Orders.{IsInOrder, how_many, stands, times}

-- a vertex asks for a module that the other gives
abbrev pub meets : List (List ℕ) → List (List ℕ) → ℕ → ℕ → Bool
meets asks gives p q = list_any (λ k. stands k (row gives q)) (row asks p)

-- and it waits for the other, or for itself only where that is wanted
abbrev pub waits_by : List (List ℕ) → List (List ℕ) → Bool → ℕ → ℕ → Bool
waits_by asks gives itself p q = meets asks gives p q && (itself || not (q == p))

abbrev pub is_left : List Bool → ℕ → Bool
is_left left p = get_or left p false

-- it waits for none of those left
abbrev pub IsClear : (ℕ → ℕ → Bool) → List Bool → ℕ → Type 0
IsClear waits left p = (q : ℕ) → is_left left q ≡ true → waits p q ≡ false

-- a module that so many of those left give, a vertex with these modules among them, is given by none that it waits for
abbrev pub is_passed : Bool → List ℕ → ℕ → ℕ → Bool
is_passed itself given held k = (held == 0) || ((held == 1) && (not itself && stands k given))

-- the modules of each vertex and the vertices of each module are one relation
pub record AreBothWays (count : ℕ) (modules vertices : List (List ℕ)) : Type 0 where
  pub many_modules : length modules ≡ count
  pub many_vertices : length vertices ≡ count
  pub back : (k : ℕ) → k < count → row vertices k ≡ filter (λ p. stands k (row modules p)) (upto count)
  pub forth : (p : ℕ) → p < count → row modules p ≡ filter (λ k. stands p (row vertices k)) (upto count)

-- one of those left that gives a module
abbrev pub gives_it : List (List ℕ) → List Bool → ℕ → ℕ → Bool
gives_it gives left k q = is_left left q && stands k (row gives q)

-- What is known. All that are free are among those that may be, but perhaps one.
pub record Knows (asks gives : List (List ℕ)) (count except : ℕ) (s : Left) : Type 0 where
  pub many_left : length s.left.items ≡ count
  pub many_held : length s.held.items ≡ count
  pub many_passed : length s.passed.items ≡ count
  pub held : (k : ℕ) → k < count → get_or s.held.items k 0 ≡ how_many (gives_it gives s.left.items k) (upto count)
  pub within : (p : ℕ) → p < count → get_or s.passed.items p 0 ≤ length (row asks p)
  pub passed : (p i : ℕ) → is_left s.left.items p ≡ true → i < get_or s.passed.items p 0 →
      is_passed s.itself (row gives p) (get_or s.held.items (get_or (row asks p) i 0) 0) (get_or (row asks p) i 0) ≡ true
  pub small : (p : ℕ) → contains nat_cmp s.free p ≡ true → p < count
  pub free : (p : ℕ) → (p ≡ except → ⊥) → is_left s.left.items p ≡ true →
      IsClear (waits_by asks gives s.itself) s.left.items p → contains nat_cmp s.free p ≡ true
  pub before : (p : ℕ) → p < s.first → is_left s.left.items p ≡ false

-- What comes next of those left
pub record IsNextOf (waits : ℕ → ℕ → Bool) (left : List Bool) (p : ℕ) : Type 0 where
  pub left' : is_left left p ≡ true
  pub is : (IsClear waits left p × ((q : ℕ) → is_left left q ≡ true → IsClear waits left q → p ≤ q)) ⊎
      (((q : ℕ) → is_left left q ≡ true → IsClear waits left q → ⊥) × ((q : ℕ) → is_left left q ≡ true → p ≤ q))

-- how far a vertex's modules are passed
pub record IsPassing (held asked given : List ℕ) (itself : Bool) (from to : ℕ) : Type 0 where
  pub on : from ≤ to
  pub within : to ≤ length asked
  pub passed : (i : ℕ) → from ≤ i → i < to → is_passed itself given (get_or held (get_or asked i 0) 0) (get_or asked i 0) ≡ true
  pub stopped : to < length asked → is_passed itself given (get_or held (get_or asked to 0) 0) (get_or asked to 0) ≡ false

-- The order so far: with any order of those left behind it, it is in order
pub record IsBegun (waits : ℕ → ℕ → Bool) (count : ℕ) (left : List Bool) (order : List ℕ) : Type 0 where
  pub each : (p : ℕ) → times p order + (if is_left left p then 1 else 0) ≡ times p (upto count)
  pub goes_on : (rest : List ℕ) → ((p : ℕ) → times p rest ≡ (if is_left left p then 1 else 0)) →
      IsInOrder waits rest → IsInOrder waits (order ++ rest)

-- those that may be free, after the vertices that ask for some modules were put to them
pub record AreOffered (old new : BTreeSet ℕ) (held given : List ℕ) (askers : List (List ℕ)) : Type 0 where
  pub kept : (p : ℕ) → contains nat_cmp old p ≡ true → contains nat_cmp new p ≡ true
  pub offered : (k p : ℕ) → stands k given ≡ true → get_or held k 0 ≤ 1 → stands p (row askers k) ≡ true →
      contains nat_cmp new p ≡ true
  pub small : (bound : ℕ) → ((p : ℕ) → contains nat_cmp old p ≡ true → p < bound) →
      ((k p : ℕ) → stands p (row askers k) ≡ true → p < bound) → (p : ℕ) → contains nat_cmp new p ≡ true → p < bound
