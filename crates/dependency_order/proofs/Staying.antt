-- What is known of those left, as vertices are looked at and taken.
use Rattle.std.proofs.Common.{◌≡◌, ◌<◌, ◌≤◌, ℕ, zero, suc, Bool, true, false, inl, inr, List, [], ◌∷◌, length, eqb, if◌then◌else◌, get_or, set, sym, ap, ◌∙◌, refl, subst, arith, nat_cmp, length-set, get_or-set_same, get_or-set_other}
use Rattle.std.specs.Vec.{with_item}
use Rattle.std.specs.BTreeSet.{BTreeSet, IsLowerBound, Updates}
use Rattle.std.proofs.lemmas.Bool.{cases_eq, cases_lt, eq-eqb}
use Rattle.std.proofs.lemmas.List.Folds.{list_any_at}
use Rattle.dependency_order.specs.declared.order.Left.{Left}
use Rattle.dependency_order.specs.Left.{IsClear, IsNextOf, IsPassing, Knows, is_left, is_passed, waits_by}
use Rattle.dependency_order.specs.Lists.{row}
use Rattle.dependency_order.specs.Orders.{stands}
use Rattle.dependency_order.proofs.FreeSets.{not_gt, taken_less, taken_other}
use Rattle.dependency_order.proofs.Waiting.{all_of, all_passed_clear, left-below, not_passed_waits}

abbrev bit : Bool → ℕ
bit b = if b then 1 else 0

-- Looked at

pub passing_at : (s : Left) (asks gives : List (List ℕ)) (h a g : List ℕ) (x from to : ℕ) → h ≡ s.held.items → a ≡ row asks x → g ≡ row gives x → from ≡ get_or s.passed.items x from → x < length s.passed.items →
    IsPassing h a g s.itself from to → IsPassing s.held.items (row asks x) (row gives x) s.itself (get_or s.passed.items x 0) to
passing_at s asks gives h a g x from to held asked given is below passing =
    let H : List ℕ → Type 0 = λ l. IsPassing l a g s.itself from to in
    let A : List ℕ → Type 0 = λ l. IsPassing s.held.items l g s.itself from to in
    let G : List ℕ → Type 0 = λ l. IsPassing s.held.items (row asks x) l s.itself from to in
    let F : ℕ → Type 0 = λ n. IsPassing s.held.items (row asks x) (row gives x) s.itself n to in
    let zero' : from ≡ get_or s.passed.items x 0 = is ∙ default s.passed.items x from 0 below in
    subst F zero' (subst G given (subst A asked (subst H held passing)))
  where
    default : (xs : List ℕ) (i d e : ℕ) → i < length xs → get_or xs i d ≡ get_or xs i e
    default [] i d e below = absurd (omega (arith, below))
    default (y ∷ ys) zero d e below = refl
    default (y ∷ ys) (suc i) d e below = default ys i d e (omega (arith, below))

module _ (asks gives : List (List ℕ)) (count : ℕ) (s : Left) (x to : ℕ) (f : BTreeSet ℕ) (known : Knows asks gives count count s) (is : is_left s.left.items x ≡ true)
    (passing : IsPassing s.held.items (row asks x) (row gives x) s.itself (get_or s.passed.items x 0) to) (out : Updates nat_cmp s.free f x false) where
  x_below : x < count
  x_below = left-below count s.left.items x known.many_left is

  x_in : x < length s.passed.items
  x_in = let b = x_below in let m = known.many_passed in omega (arith, b, m)

  within_on : (p : ℕ) → p < count → get_or (set s.passed.items x to) p 0 ≤ length (row asks p)
  within_on p below =
      elim (cases_eq p x) [
        | inl e ↦
            let In : ℕ → Type 0 = λ q. get_or (set s.passed.items x to) q 0 ≤ length (row asks q) in
            let same = get_or-set_same s.passed.items x to 0 x_in in
            let w = passing.within in
            subst In (sym e) (omega (arith, same, w))
        | inr ne ↦
            let other = get_or-set_other s.passed.items x p to 0 ne in
            let w = known.within p below in
            omega (arith, other, w)
      ]

  passed_here : (i : ℕ) → i < to → is_passed s.itself (row gives x) (get_or s.held.items (get_or (row asks x) i 0) 0) (get_or (row asks x) i 0) ≡ true
  passed_here i below =
      elim (cases_lt i (get_or s.passed.items x 0)) [
        | inl before ↦ known.passed x i is before
        | inr on ↦ passing.passed i on below
      ]

  passed_on : (p i : ℕ) → is_left s.left.items p ≡ true → i < get_or (set s.passed.items x to) p 0 →
      is_passed s.itself (row gives p) (get_or s.held.items (get_or (row asks p) i 0) 0) (get_or (row asks p) i 0) ≡ true
  passed_on p i left' below =
      elim (cases_eq p x) [
        | inl e ↦
            let P : ℕ → Type 0 = λ q. is_passed s.itself (row gives q) (get_or s.held.items (get_or (row asks q) i 0) 0) (get_or (row asks q) i 0) ≡ true in
            let same = get_or-set_same s.passed.items x to 0 x_in in
            let at' = ap (λ q. get_or (set s.passed.items x to) q 0) e in
            subst P (sym e) (passed_here i (omega (arith, below, same, at')))
        | inr ne ↦
            let other = get_or-set_other s.passed.items x p to 0 ne in
            known.passed p i left' (omega (arith, below, other))
      ]

  pub moved_on : Knows asks gives count x (record s { passed = with_item s.passed x to; free = f })
  moved_on = record {
    many_left = known.many_left;
    many_held = known.many_held;
    many_passed = length-set s.passed.items x to ∙ known.many_passed;
    held = known.held;
    within = within_on;
    passed = passed_on;
    small = λ p there. known.small p (taken_less s.free f x p out there);
    free = λ p ne left' clear.
        taken_other s.free f x p out ne ∙
        known.free p (λ e. let b = left-below count s.left.items p known.many_left left' in omega (arith, b, e)) left' clear;
    before = known.before;
  }

  counted : (asked : (k p : ℕ) → stands k (row asks p) ≡ true → k < count) → (k : ℕ) → stands k (row asks x) ≡ true → get_or s.held.items k 0 ≡ all_of gives count s.left.items k
  counted asked k there = known.held k (asked k x there)

  pub clear_here : ((k p : ℕ) → stands k (row asks p) ≡ true → k < count) → to ≡ length (row asks x) → IsClear (waits_by asks gives s.itself) s.left.items x
  clear_here asked all =
      all_passed_clear asks gives count s.left.items s.held.items s.itself x known.many_left is (counted asked)
      (λ i below. passed_here i (omega (arith, below, all)))

  pub not_clear : ((k p : ℕ) → stands k (row asks p) ≡ true → k < count) → (to ≡ length (row asks x) → ⊥) → IsClear (waits_by asks gives s.itself) s.left.items x → ⊥
  not_clear asked short clear =
      let w = passing.within in
      let below : to < length (row asks x) = omega (arith, w, short) in
      let k = get_or (row asks x) to 0 in
      let there = list_any_at (λ j. eqb j k) (row asks x) to 0 below (eq-eqb k k refl) in
      not_passed_waits asks gives count s.left.items s.held.items s.itself x to known.many_left is below (counted asked k there) (passing.stopped below) clear

  pub next_here : ((k p : ℕ) → stands k (row asks p) ≡ true → k < count) → to ≡ length (row asks x) → IsLowerBound nat_cmp s.free x → IsNextOf (waits_by asks gives s.itself) s.left.items x
  next_here asked all low = record {
    left' = is;
    is = inl (
      clear_here asked all,
      λ q left' clear.
          not_gt x q (low q (known.free q (λ e. let b = left-below count s.left.items q known.many_left left' in omega (arith, b, e)) left' clear)),
    );
  }

pub next_moved : (asks gives : List (List ℕ)) (i j : Bool) (l m : List Bool) (x : ℕ) → i ≡ j → l ≡ m → IsNextOf (waits_by asks gives i) l x → IsNextOf (waits_by asks gives j) m x
next_moved asks gives i j l m x e f is =
    let I : Bool → Type 0 = λ b. IsNextOf (waits_by asks gives b) l x in
    let L : List Bool → Type 0 = λ k. IsNextOf (waits_by asks gives j) k x in
    subst L f (subst I e is)

-- a vertex that isn't free needs not be among those that may be
pub not_excepted : (asks gives : List (List ℕ)) (count x : ℕ) (s : Left) → Knows asks gives count x s → (is_left s.left.items x ≡ true → IsClear (waits_by asks gives s.itself) s.left.items x → ⊥) →
    Knows asks gives count count s
not_excepted asks gives count x s known never = record {
  many_left = known.many_left;
  many_held = known.many_held;
  many_passed = known.many_passed;
  held = known.held;
  within = known.within;
  passed = known.passed;
  small = known.small;
  free = λ p ne left' clear.
      elim (cases_eq p x) [
        | inl e ↦
            let L : ℕ → Type 0 = λ q. is_left s.left.items q ≡ true in
            let C : ℕ → Type 0 = λ q. IsClear (waits_by asks gives s.itself) s.left.items q in
            absurd (never (subst L e left') (subst C e clear))
        | inr nor ↦ known.free p nor left' clear
      ];
  before = known.before;
}
