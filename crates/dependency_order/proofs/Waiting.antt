-- What the counts of givers say: which vertices are clear.
use Rattle.std.proofs.Common.{◌≡◌, ◌<◌, ◌+◌, ℕ, suc, Bool, true, false, not, ◌||◌, ◌&&◌, inl, inr, List, [], ◌∷◌, length, eqb, if◌then◌else◌, get_or, sym, ap, ◌∙◌, refl, arith}
use Rattle.std.specs.List.{list_any}
use Rattle.std.proofs.lemmas.Bool.{and_from, and_parts, cases_eq, cases_lt, eq-eqb, eqb-true, false≢true, false_from_ne_true, or_cases, or_parts}
use Rattle.std.proofs.lemmas.List.{get_or_past}
use Rattle.std.proofs.lemmas.List.Folds.{list_any_at}
use Rattle.dependency_order.specs.Left.{IsClear, gives_it, is_left, is_passed, meets, waits_by}
use Rattle.dependency_order.specs.Lists.{row, upto}
use Rattle.dependency_order.specs.Orders.{how_many, stands, times}
use Rattle.dependency_order.proofs.Counting.{how_many-none, how_many-some, how_many-split, times-upto}
use Rattle.dependency_order.proofs.Upto.{stands-upto}

-- Items of lists and where they stand

pub record Found (test : ℕ → Bool) (xs : List ℕ) : Type 0 where
  pub at' : ℕ
  pub below : at' < length xs
  pub passes : test (get_or xs at' 0) ≡ true

pub vertex_of : (test : ℕ → Bool) (xs : List ℕ) → list_any test xs ≡ true → Found test xs
vertex_of test [] is = absurd (false≢true is)
vertex_of test (x ∷ xs) is =
    elim (or_cases (test x) (list_any test xs) is) [
      | inl here ↦ record { at' = 0; below = omega arith; passes = here }
      | inr on ↦ let rest = vertex_of test xs on in record { at' = suc rest.at'; below = let b = rest.below in omega (arith, b); passes = rest.passes }
    ]

-- Counts

passed_none : (h others : ℕ) (s : Bool) → h ≡ others + (if s then 1 else 0) → ((eqb h 0) || ((eqb h 1) && s)) ≡ true → others ≡ 0
passed_none h others true is so =
    elim (or_cases (eqb h 0) (eqb h 1 && true) so) [
      | inl none ↦ let z = eqb-true h 0 none in omega (arith, is, z)
      | inr one ↦ let z = eqb-true h 1 (and_parts (eqb h 1) true one).0 in omega (arith, is, z)
    ]
passed_none h others false is so =
    elim (or_cases (eqb h 0) (eqb h 1 && false) so) [
      | inl none ↦ let z = eqb-true h 0 none in omega (arith, is, z)
      | inr one ↦ absurd (false≢true (and_parts (eqb h 1) false one).1)
    ]

-- one number at most is counted beside the others
blocked_some : (h others : ℕ) (s : Bool) → h ≡ others + (if s then 1 else 0) → ((eqb h 0) || ((eqb h 1) && s)) ≡ false → 0 < others
blocked_some h others true is so =
    let both = or_parts (eqb h 0) (eqb h 1 && true) so in
    elim (cases_eq h 1) [
      | inl one ↦ absurd (false≢true (sym both.1 ∙ and_from (eqb h 1) true (eq-eqb h 1 one) refl))
      | inr ne ↦ elim (cases_eq h 0) [ inl none ↦ absurd (omega (arith, is, none)) | inr nor ↦ omega (arith, is, ne, nor) ]
    ]
blocked_some h others false is so =
    let both = or_parts (eqb h 0) (eqb h 1 && false) so in
    elim (cases_eq h 0) [
      | inl none ↦ absurd (false≢true (sym both.0 ∙ eq-eqb h 0 none))
      | inr ne ↦ omega (arith, is, ne)
    ]

-- those beside p that give k
abbrev pub others : List (List ℕ) → ℕ → List Bool → ℕ → ℕ → ℕ
others gives count left k p = how_many (λ q. gives_it gives left k q && not (eqb q p)) (upto count)

abbrev pub all_of : List (List ℕ) → ℕ → List Bool → ℕ → ℕ
all_of gives count left k = how_many (gives_it gives left k) (upto count)

bit_of : (l s : Bool) (t : ℕ) → l ≡ true → t ≡ 1 → (if l && s then t else 0) ≡ (if s then 1 else 0)
bit_of true true t is one = one
bit_of true false t is one = refl
bit_of false s t is one = absurd (false≢true is)

-- with p, if it is left
pub with_itself : (gives : List (List ℕ)) (count : ℕ) (left : List Bool) (k p : ℕ) → p < count → is_left left p ≡ true →
    all_of gives count left k ≡ others gives count left k p + (if stands k (row gives p) then 1 else 0)
with_itself gives count left k p below is =
    how_many-split (gives_it gives left k) p (upto count) ∙
    ap (λ n. others gives count left k p + n) (bit_of (is_left left p) (stands k (row gives p)) (times p (upto count)) is (times-upto count p below))

pub left-below : (count : ℕ) (left : List Bool) (q : ℕ) → length left ≡ count → is_left left q ≡ true → q < count
left-below count left q many is =
    elim (cases_lt q count) [
      | inl below ↦ below
      | inr past ↦ absurd (false≢true (sym (get_or_past left q false (omega (arith, past, many))) ∙ is))
    ]

-- A module that is passed is given by none that p waits for.
pub passed_clear : (gives : List (List ℕ)) (count : ℕ) (left : List Bool) (itself : Bool) (h k p q : ℕ) → length left ≡ count → is_left left p ≡ true → h ≡ all_of gives count left k →
    is_passed itself (row gives p) h k ≡ true → is_left left q ≡ true → stands k (row gives q) ≡ true → (itself || not (eqb q p)) ≡ false
passed_clear gives count left true h k p q many is counted so left_q gives_q =
    let none : h ≡ 0 =
    elim (or_cases (eqb h 0) (eqb h 1 && (false && stands k (row gives p))) so) [
      | inl z ↦ eqb-true h 0 z
      | inr one ↦ absurd (false≢true (and_parts (eqb h 1) false one).1)
    ] in
    let q_below = left-below count left q many left_q in
    let never = how_many-none (gives_it gives left k) (upto count) (sym counted ∙ none) q (stands-upto count q q_below) in
    absurd (false≢true (sym never ∙ and_from (is_left left q) (stands k (row gives q)) left_q gives_q))
passed_clear gives count left false h k p q many is counted so left_q gives_q =
    let p_below = left-below count left p many is in
    let q_below = left-below count left q many left_q in
    let none = passed_none h (others gives count left k p) (stands k (row gives p)) (counted ∙ with_itself gives count left k p p_below is) so in
    let never = how_many-none (λ r. gives_it gives left k r && not (eqb r p)) (upto count) none q (stands-upto count q q_below) in
    false_from_ne_true (not (eqb q p))
    (λ e. false≢true (sym never ∙ and_from (gives_it gives left k q) (not (eqb q p)) (and_from (is_left left q) (stands k (row gives q)) left_q gives_q) e))

-- One that p waits for, since it gives a module that is not passed
pub record Blocker (gives : List (List ℕ)) (left : List Bool) (itself : Bool) (k p : ℕ) : Type 0 where
  pub by : ℕ
  pub is : is_left left by ≡ true
  pub giving : stands k (row gives by) ≡ true
  pub apart : (itself || not (eqb by p)) ≡ true

pub blocker_of : (gives : List (List ℕ)) (count : ℕ) (left : List Bool) (itself : Bool) (h k p : ℕ) → length left ≡ count → is_left left p ≡ true → h ≡ all_of gives count left k →
    is_passed itself (row gives p) h k ≡ false → Blocker gives left itself k p
blocker_of gives count left true h k p many is counted so =
    let some : 0 < all_of gives count left k =
    elim (cases_eq h 0) [
      | inl z ↦ absurd (false≢true (sym (or_parts (eqb h 0) (eqb h 1 && (false && stands k (row gives p))) so).0 ∙ eq-eqb h 0 z))
      | inr ne ↦ omega (arith, counted, ne)
    ] in
    let found = how_many-some (gives_it gives left k) (upto count) some in
    let both = and_parts (is_left left found.item) (stands k (row gives found.item)) found.passes in
    record { by = found.item; is = both.0; giving = both.1; apart = refl }
blocker_of gives count left false h k p many is counted so =
    let p_below = left-below count left p many is in
    let some = blocked_some h (others gives count left k p) (stands k (row gives p)) (counted ∙ with_itself gives count left k p p_below is) so in
    let found = how_many-some (λ r. gives_it gives left k r && not (eqb r p)) (upto count) some in
    let two = and_parts (gives_it gives left k found.item) (not (eqb found.item p)) found.passes in
    let both = and_parts (is_left left found.item) (stands k (row gives found.item)) two.0 in
    record { by = found.item; is = both.0; giving = both.1; apart = two.1 }

-- Whole vertices

pub all_passed_clear : (asks gives : List (List ℕ)) (count : ℕ) (left : List Bool) (held : List ℕ) (itself : Bool) (p : ℕ) → length left ≡ count → is_left left p ≡ true →
    ((k : ℕ) → stands k (row asks p) ≡ true → get_or held k 0 ≡ all_of gives count left k) →
    ((i : ℕ) → i < length (row asks p) → is_passed itself (row gives p) (get_or held (get_or (row asks p) i 0) 0) (get_or (row asks p) i 0) ≡ true) →
    IsClear (waits_by asks gives itself) left p
all_passed_clear asks gives count left held itself p many is counted passed q left_q =
    false_from_ne_true (waits_by asks gives itself p q)
    (λ waits.
    let both = and_parts (meets asks gives p q) (itself || not (eqb q p)) waits in
    let met = vertex_of (λ k. stands k (row gives q)) (row asks p) both.0 in
    let k = get_or (row asks p) met.at' 0 in
    let there = list_any_at (λ j. eqb j k) (row asks p) met.at' 0 met.below (eq-eqb k k refl) in
    let clear = passed_clear gives count left itself (get_or held k 0) k p q many is (counted k there) (passed met.at' met.below) left_q met.passes in
    false≢true (sym clear ∙ both.1))

pub not_passed_waits : (asks gives : List (List ℕ)) (count : ℕ) (left : List Bool) (held : List ℕ) (itself : Bool) (p i : ℕ) → length left ≡ count → is_left left p ≡ true →
    i < length (row asks p) → get_or held (get_or (row asks p) i 0) 0 ≡ all_of gives count left (get_or (row asks p) i 0) →
    is_passed itself (row gives p) (get_or held (get_or (row asks p) i 0) 0) (get_or (row asks p) i 0) ≡ false →
    IsClear (waits_by asks gives itself) left p → ⊥
not_passed_waits asks gives count left held itself p i many is below counted so clear =
    let k = get_or (row asks p) i 0 in
    let b = blocker_of gives count left itself (get_or held k 0) k p many is counted so in
    let meet = list_any_at (λ j. stands j (row gives b.by)) (row asks p) i 0 below b.giving in
    false≢true (sym (clear b.by b.is) ∙ and_from (meets asks gives p b.by) (itself || not (eqb b.by p)) meet b.apart)
