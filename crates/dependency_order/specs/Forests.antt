-- Trees of vertices, each vertex with its parent; a root is its own. Seen by this crate's own functions alone.
use Rattle.std.specs.Prelude.{◌≡◌, ◌<◌, ◌≤◌, ℕ, Bool, true, List, length, get_or}
use Rattle.dependency_order.specs.Groups.{IsJoined}
use Rattle.dependency_order.specs.Lists.{row}
use Rattle.dependency_order.specs.Orders.{stands}

abbrev pub parent : List ℕ → ℕ → ℕ
parent parents p = get_or parents p 0

-- no parent is behind its child
abbrev pub IsForest : List ℕ → Type 0
IsForest parents = (p : ℕ) → p < length parents → parent parents p ≤ p

-- only what is joined has one tree
abbrev pub JoinsOnlyJoined : (ℕ → ℕ → Bool) → List ℕ → Type 0
JoinsOnlyJoined names parents = (p : ℕ) → p < length parents → IsJoined names p (parent parents p)

-- A labelling that gives all vertices of a tree one label. The less of these there are, the more is joined.
abbrev pub Respects : (ℕ → ℕ) → List ℕ → Type 0
Respects label parents = (p : ℕ) → p < length parents → label (parent parents p) ≡ label p

-- the same trees, with vertices moved nearer to their roots
pub record IsFlatter (old new : List ℕ) : Type 0 where
  pub many : length new ≡ length old
  pub forest : IsForest new
  pub sound : (names : ℕ → ℕ → Bool) → JoinsOnlyJoined names old → JoinsOnlyJoined names new
  pub full : (label : ℕ → ℕ) → Respects label new → Respects label old
  pub roots : (p : ℕ) → parent old p ≡ p → parent new p ≡ p

-- the trees of two vertices are one now
pub record IsJoining (old new : List ℕ) (one other : ℕ) : Type 0 where
  pub many : length new ≡ length old
  pub forest : IsForest new
  pub sound : (names : ℕ → ℕ → Bool) → JoinsOnlyJoined names old → IsJoined names one other → JoinsOnlyJoined names new
  pub full : (label : ℕ → ℕ) → Respects label new → Respects label old
  pub tied : (label : ℕ → ℕ) → Respects label new → label one ≡ label other

-- the trees of some vertices are one with another's now
pub record AreJoining (old new vertices : List ℕ) (with' : ℕ) : Type 0 where
  pub many : length new ≡ length old
  pub forest : IsForest new
  pub sound : (names : ℕ → ℕ → Bool) → JoinsOnlyJoined names old →
      ((p : ℕ) → stands p vertices ≡ true → IsJoined names p with') → JoinsOnlyJoined names new
  pub full : (label : ℕ → ℕ) → Respects label new → Respects label old
  pub tied : (label : ℕ → ℕ) → Respects label new → (p : ℕ) → stands p vertices ≡ true → label p ≡ label with'

-- each of some vertices has one tree with each of others
pub record IsTie (old new some others : List ℕ) : Type 0 where
  pub many : length new ≡ length old
  pub forest : IsForest new
  pub sound : (names : ℕ → ℕ → Bool) → JoinsOnlyJoined names old →
      ((p q : ℕ) → stands p some ≡ true → stands q others ≡ true → IsJoined names p q) → JoinsOnlyJoined names new
  pub full : (label : ℕ → ℕ) → Respects label new → Respects label old
  pub tied : (label : ℕ → ℕ) → Respects label new →
      (p q : ℕ) → stands p some ≡ true → stands q others ≡ true → label p ≡ label q

-- The trees are those of vertices that are tied: of each module's vertices in the one row of lists with its vertices in the other.
pub record AreTrees (some others : List (List ℕ)) (count bound : ℕ) (parents : List ℕ) : Type 0 where
  pub many : length parents ≡ count
  pub forest : IsForest parents
  pub sound : (names : ℕ → ℕ → Bool) →
      ((k p q : ℕ) → k < bound → stands p (row some k) ≡ true → stands q (row others k) ≡ true → IsJoined names p q) →
      JoinsOnlyJoined names parents
  pub tied : (label : ℕ → ℕ) → Respects label parents →
      (k p q : ℕ) → k < bound → stands p (row some k) ≡ true → stands q (row others k) ≡ true → label p ≡ label q

-- and each vertex is right under its root
pub record AreFlatTrees (some others : List (List ℕ)) (parents : List ℕ) : Type 0 where
  pub trees : AreTrees some others (length some) (length some) parents
  pub flat : (p : ℕ) → p < length parents → parent parents (parent parents p) ≡ parent parents p
