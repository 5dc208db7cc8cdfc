-- The way up from a leaf to the first marked node at its right.
use Rattle.std.proofs.Common.{◌≡◌, ◌<◌, ◌≤◌, ◌+◌, ◌*◌, ◌/◌, ◌%◌, ◌^◌, ◌||◌, ⊎_elim, ℕ, zero, suc, Bool, true, false, List, length, arith, sym, ap, ◌∙◌}
use Rattle.std.proofs.Math.Nat.{pow-succ'}
use Rattle.std.proofs.lemmas.Bool.{cases_Bool, cases_eq, cases_lt, true≢false}
use Rattle.std.proofs.lemmas.List.{get_or_past}
use Rattle.ready_set.specs.Marks.{IsFirst, IsTree, above, is_marked}
use Rattle.ready_set.proofs.Sizes.{even_marks, halved}

pub above-le : (levels node : ℕ) → above levels node ≤ node
above-le zero node = omega arith
above-le (suc levels) node = let least = above-le levels node in omega arith

-- where a node is marked, that above it is
marked_next : (marks : List Bool) (node : ℕ) → IsTree marks → node < length marks → 0 < node / 2 →
    is_marked marks node ≡ true → is_marked marks (node / 2) ≡ true
marked_next marks node tree within inner marked =
    let even = even_marks marks tree.full in
    let parent = node / 2 in
    let mended : is_marked marks parent ≡ (is_marked marks (2 * parent) || is_marked marks (2 * parent + 1)) = tree.mended parent inner (omega arith) in
    ⊎_elim (λ (left : node ≡ 2 * parent). let here : is_marked marks (2 * parent) ≡ true = ap (is_marked marks) (sym left) ∙ marked in cc)
    (λ (other : node ≡ 2 * parent → ⊥).
    let right : node ≡ 2 * parent + 1 = omega arith in
    let here : is_marked marks (2 * parent + 1) ≡ true = ap (is_marked marks) (sym right) ∙ marked in
    grind (arith, mended, here))
    (cases_eq node (2 * parent))

-- so all that stands above a marked leaf is marked
pub marked_above : (marks : List Bool) (levels leaf : ℕ) → IsTree marks → leaf < length marks → 0 < above levels leaf →
    is_marked marks leaf ≡ true → is_marked marks (above levels leaf) ≡ true
marked_above marks zero leaf tree within inner marked = marked
marked_above marks (suc levels) leaf tree within inner marked =
    let least = above-le levels leaf in
    marked_next marks (above levels leaf) tree (omega arith) inner
    (marked_above marks levels leaf tree within (omega arith) marked)

-- and what stands below an unmarked node is unmarked
pub unmarked_below : (marks : List Bool) (levels node leaf : ℕ) → IsTree marks → leaf < length marks → 0 < node →
    above levels leaf ≡ node → is_marked marks node ≡ false → is_marked marks leaf ≡ false
unmarked_below marks levels node leaf tree within inner below unmarked =
    ⊎_elim (λ (marked : is_marked marks leaf ≡ true).
    absurd (true≢false (sym (marked_above marks levels leaf tree within (omega arith) marked) ∙ ap (is_marked marks) below ∙ unmarked)))
    (λ it. it)
    (cases_Bool (is_marked marks leaf))

-- the node that the way has come to, with the end of its level; the leaves before it are unmarked
pub record IsClimbing (marks : List Bool) (from node end levels : ℕ) : Type 0 where
  pub inner : 0 < node
  pub power : (e : ℕ) × (end ≡ 2 ^ e)
  pub small : levels + end ≤ length marks
  pub inside : (leaf : ℕ) → above levels leaf < end → leaf < length marks
  pub all : (leaf : ℕ) → leaf < length marks → above levels leaf < end
  pub from' : (leaf : ℕ) → node ≤ above levels leaf → from ≤ leaf
  pub before : (leaf : ℕ) → from ≤ leaf → above levels leaf < node → is_marked marks leaf ≡ false

pub begins : (marks : List Bool) (leaf : ℕ) → IsTree marks → 0 < leaf → leaf < length marks →
    IsClimbing marks leaf leaf (length marks) 0
begins marks leaf tree inner within =
    let full = tree.full (omega arith) in
    record {
      inner = inner;
      power = (suc full.0, full.1 ∙ sym (pow-succ' 2 full.0));
      small = omega arith;
      inside = λ k h. h;
      all = λ k h. h;
      from' = λ k h. h;
      before = λ k h g. absurd (omega arith);
    }

-- an unmarked node is passed
passed : (marks : List Bool) (from node end levels : ℕ) → IsTree marks → IsClimbing marks from node end levels → node < end →
    is_marked marks node ≡ false → (leaf : ℕ) → from ≤ leaf → above levels leaf < node + 1 → is_marked marks leaf ≡ false
passed marks from node end levels tree on more unmarked leaf behind least =
    ⊎_elim (λ (before : above levels leaf < node). on.before leaf behind before)
    (λ (not : node ≤ above levels leaf).
    let here : above levels leaf ≡ node = omega arith in
    unmarked_below marks levels node leaf tree (on.inside leaf (omega arith)) on.inner here unmarked)
    (cases_lt (above levels leaf) node)

pub goes_right : (marks : List Bool) (from node end levels : ℕ) → IsTree marks → IsClimbing marks from node end levels → node < end →
    is_marked marks node ≡ false → IsClimbing marks from (node + 1) end levels
goes_right marks from node end levels tree on more unmarked = record {
  inner = omega arith;
  power = on.power;
  small = on.small;
  inside = on.inside;
  all = on.all;
  from' = λ leaf h. on.from' leaf (omega arith);
  before = passed marks from node end levels tree on more unmarked;
}

pub goes_up : (marks : List Bool) (from node end levels : ℕ) → IsTree marks → IsClimbing marks from node end levels → node < end →
    is_marked marks node ≡ false → (node % 2 ≡ 0 → ⊥) → IsClimbing marks from (node / 2 + 1) (end / 2) (suc levels)
goes_up marks from node end levels tree on more unmarked odd =
    let inner = on.inner in
    let small = on.small in
    let half = halved end on.power (omega arith) in
    let twice : end ≡ 2 * (end / 2) = half.2 in
    record {
      inner = omega arith;
      power = (half.0, half.1);
      small = omega arith;
      inside = λ leaf h. on.inside leaf (omega arith);
      all = λ leaf h. let least : above levels leaf < end = on.all leaf h in omega arith;
      from' = λ leaf h. on.from' leaf (omega arith);
      before = λ leaf behind h. passed marks from node end levels tree on more unmarked leaf behind (omega arith);
    }

-- at the end of a level there is no leaf behind
pub ends : (marks : List Bool) (from node end levels : ℕ) → IsClimbing marks from node end levels → end ≤ node →
    (leaf : ℕ) → from ≤ leaf → is_marked marks leaf ≡ false
ends marks from node end levels on last leaf behind =
    ⊎_elim (λ (within : leaf < length marks). let least = on.all leaf within in on.before leaf behind (omega arith))
    (λ (past : length marks ≤ leaf). get_or_past marks leaf false past)
    (cases_lt leaf (length marks))

pub found : (marks : List Bool) (from node end levels : ℕ) → IsClimbing marks from node end levels → node < end →
    is_marked marks node ≡ true → IsFirst marks from levels node
found marks from node end levels on more marked = record {
  inner = on.inner;
  marked = marked;
  from' = λ leaf below. on.from' leaf (omega arith);
  within = λ leaf below. on.inside leaf (omega arith);
  before = on.before;
}
