-- A tree of marks, in a list: seen by this crate's own functions alone. Node 1 is the root, a node has the nodes of twice its
-- number and of one more below it, and the upper half of the list are the leaves.
use Rattle.std.specs.Prelude.{◌≡◌, ◌<◌, ◌≤◌, ◌+◌, ◌*◌, ◌/◌, ◌^◌, ◌||◌, ℕ, zero, suc, Bool, true, false}
use Rattle.std.specs.Prelude.{List, length, get_or, take, drop}

abbrev pub is_marked : List Bool → ℕ → Bool
is_marked marks node = get_or marks node false

-- the node so many levels above one
abbrev pub above : ℕ → ℕ → ℕ
above zero node = node
above (suc levels) node = above levels node / 2

-- a node is marked where one of the two below it is
abbrev pub IsMended : List Bool → ℕ → Type 0
IsMended marks node = is_marked marks node ≡ (is_marked marks (2 * node) || is_marked marks (2 * node + 1))

-- it has a power of two of leaves, or no node at all
abbrev pub IsFull : List Bool → Type 0
IsFull marks = 0 < length marks → (levels : ℕ) × (length marks ≡ 2 * 2 ^ levels)

-- and each node above the leaves is mended
pub record IsTree (marks : List Bool) : Type 0 where
  pub full : IsFull marks
  pub mended : (node : ℕ) → 0 < node → 2 * node + 1 < length marks → IsMended marks node

-- the leaf of a number
abbrev pub leaf_of : List Bool → ℕ → ℕ
leaf_of marks number = length marks / 2 + number

-- whether a number is in the set
abbrev pub is_leaf_marked : List Bool → ℕ → Bool
is_leaf_marked marks number = is_marked marks (leaf_of marks number)

-- the marks of the first numbers
abbrev pub flags_of : List Bool → ℕ → List Bool
flags_of marks capacity = take capacity (drop (length marks / 2) marks)

-- a tree with a leaf for each of so many numbers, and no marked leaf behind them
pub record IsMarkTree (marks : List Bool) (capacity : ℕ) : Type 0 where
  pub tree : IsTree marks
  pub room : 2 * capacity ≤ length marks
  pub rest : (number : ℕ) → capacity ≤ number → is_leaf_marked marks number ≡ false

-- a marked node, so many levels above the leaves, with no leaf below it before a given one; of the leaves from that one on, those
-- before it are unmarked
pub record IsFirst (marks : List Bool) (from levels node : ℕ) : Type 0 where
  pub inner : 0 < node
  pub marked : is_marked marks node ≡ true
  pub from' : (leaf : ℕ) → above levels leaf ≡ node → from ≤ leaf
  pub within : (leaf : ℕ) → above levels leaf ≡ node → leaf < length marks
  pub before : (leaf : ℕ) → from ≤ leaf → above levels leaf < node → is_marked marks leaf ≡ false

-- the first marked leaf of those below a node
pub record IsFirstBelow (marks : List Bool) (levels node first : ℕ) : Type 0 where
  pub below : above levels first ≡ node
  pub marked : is_marked marks first ≡ true
  pub before : (leaf : ℕ) → above levels leaf ≡ node → leaf < first → is_marked marks leaf ≡ false

-- the first marked leaf of those from a given one on
pub record IsFirstFrom (marks : List Bool) (from first : ℕ) : Type 0 where
  pub from' : from ≤ first
  pub within : first < length marks
  pub marked : is_marked marks first ≡ true
  pub before : (leaf : ℕ) → from ≤ leaf → leaf < first → is_marked marks leaf ≡ false
