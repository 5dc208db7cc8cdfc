-- The way down from a marked node to the first marked leaf below it.
use Rattle.std.proofs.Common.{◌≡◌, ◌<◌, ◌≤◌, ◌+◌, ◌*◌, ◌||◌, ⊎_elim, ℕ, zero, suc, Bool, true, false, List, length, arith, sym, ap, ◌∙◌, refl}
use Rattle.std.proofs.lemmas.Bool.{cases_lt}
use Rattle.ready_set.specs.Marks.{IsFirst, IsFirstBelow, IsFirstFrom, IsTree, above, is_marked}
use Rattle.ready_set.proofs.Climbing.{above-le, unmarked_below}

-- each node has a leaf so many levels below it
reached : (levels node : ℕ) → (leaf : ℕ) × (above levels leaf ≡ node)
reached zero node = (node, refl)
reached (suc levels) node =
    let it = reached levels (2 * node) in
    let at : above levels it.0 ≡ 2 * node = it.1 in
    (it.0, omega arith)

-- a marked node below the root, so many levels above the leaves; the leaves below the root and before it are unmarked
pub record IsDescending (marks : List Bool) (top root levels node : ℕ) : Type 0 where
  pub inner : 0 < node
  pub marked : is_marked marks node ≡ true
  pub under : (leaf : ℕ) → above levels leaf ≡ node → above top leaf ≡ root
  pub before : (leaf : ℕ) → above top leaf ≡ root → above levels leaf < node → is_marked marks leaf ≡ false

pub sets_out : (marks : List Bool) (from top root : ℕ) → IsFirst marks from top root → IsDescending marks top root top root
sets_out marks from top root first = record {
  inner = first.inner;
  marked = first.marked;
  under = λ leaf h. h;
  before = λ leaf h g. absurd (omega arith);
}

-- above the leaves a node has two below it
pub both_within : (marks : List Bool) (from top root levels node : ℕ) → IsFirst marks from top root →
    IsDescending marks top root levels node → 0 < levels → 2 * node + 1 < length marks
both_within marks from top root zero node first on more = absurd (omega arith)
both_within marks from top root (suc levels) node first on more =
    let it = reached levels (2 * node + 1) in
    let at : above levels it.0 ≡ 2 * node + 1 = it.1 in
    let within = first.within it.0 (on.under it.0 (omega arith)) in
    let least = above-le levels it.0 in
    omega arith

-- the way goes on by the left one, where that is marked
pub goes_left : (marks : List Bool) (top root levels node left : ℕ) → IsDescending marks top root (suc levels) node →
    left ≡ 2 * node → is_marked marks left ≡ true → IsDescending marks top root levels left
goes_left marks top root levels node left on is marked =
    let inner = on.inner in
    record {
      inner = omega arith;
      marked = marked;
      under = λ leaf h. on.under leaf (omega arith);
      before = λ leaf below h. on.before leaf below (omega arith);
    }

-- and else by the right one
pub goes_past : (marks : List Bool) (from top root levels node left : ℕ) → IsTree marks → IsFirst marks from top root →
    IsDescending marks top root (suc levels) node → left ≡ 2 * node → is_marked marks left ≡ false →
    IsDescending marks top root levels (left + 1)
goes_past marks from top root levels node left tree first on is unmarked =
    let inner = on.inner in
    let marked = on.marked in
    let both = both_within marks from top root (suc levels) node first on (omega arith) in
    let mended : is_marked marks node ≡ (is_marked marks (2 * node) || is_marked marks (2 * node + 1)) = tree.mended node inner both in
    let here : is_marked marks (2 * node) ≡ false = ap (is_marked marks) (sym is) ∙ unmarked in
    let there : is_marked marks (left + 1) ≡ is_marked marks (2 * node + 1) = ap (λ k. is_marked marks (k + 1)) is in
    record {
      inner = omega arith;
      marked = cc;
      under = λ leaf h. on.under leaf (omega arith);
      before = λ leaf below h.
          ⊎_elim (λ (before : above levels leaf < left). on.before leaf below (omega arith))
          (λ (not : left ≤ above levels leaf).
          unmarked_below marks levels left leaf tree (first.within leaf below) (omega arith) (omega arith) unmarked)
          (cases_lt (above levels leaf) left);
    }

pub arrives : (marks : List Bool) (top root node : ℕ) → IsDescending marks top root 0 node → IsFirstBelow marks top root node
arrives marks top root node on = record {
  below = on.under node refl;
  marked = on.marked;
  before = λ leaf below before. on.before leaf below before;
}

-- what stands above leaves is in their order
above-mono : (levels first second : ℕ) → first ≤ second → above levels first ≤ above levels second
above-mono zero first second least = least
above-mono (suc levels) first second least = let rec = above-mono levels first second least in omega arith

-- the first marked leaf below the first marked node is the first marked leaf
pub first_of_all : (marks : List Bool) (from top root leaf : ℕ) → IsFirst marks from top root → IsFirstBelow marks top root leaf →
    IsFirstFrom marks from leaf
first_of_all marks from top root leaf first it = record {
  from' = first.from' leaf it.below;
  within = first.within leaf it.below;
  marked = it.marked;
  before = λ k behind before.
      let least = above-mono top k leaf (omega arith) in
      let below = it.below in
      ⊎_elim (λ (left : above top k < root). first.before k behind left)
      (λ (not : root ≤ above top k). it.before k (omega arith) before)
      (cases_lt (above top k) root);
}
