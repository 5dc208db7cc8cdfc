-- Sets of vertices, as they change.
use Rattle.std.proofs.Common.{◌≡◌, ◌<◌, ◌≤◌, ◌+◌, ◌-◌, ℕ, Bool, true, false, cond, ◌||◌, inl, inr, List, [], ◌∷◌, ◌++◌, length, eqb, get_or, set, take, sym, ap, ◌∙◌, refl, subst, arith, is_eq, is_gt, nat_cmp, Less, Equal, Greater, get_or-set_same, get_or-set_other, if◌then◌else◌, zero, suc}
use Rattle.std.specs.BTreeSet.{BTreeSet, Updates, contains}
use Rattle.std.proofs.lemmas.Bool.{cases_eq, cases_lt, cases_order, eq-eqb, eqb-true, false≢true, le-ltb, lt-ltb, ne_eqb, or_cases, or_left, or_right}
use Rattle.std.proofs.lemmas.List.{get_or_past, take_more}
use Rattle.dependency_order.specs.Orders.{stands, times}
use Rattle.dependency_order.specs.Lists.{row}
use Rattle.dependency_order.specs.Left.{AreOffered}
use Rattle.dependency_order.proofs.Counting.{times-push}
use Rattle.dependency_order.proofs.Entering.{stands-more}

pub at-number : (a b : ℕ) → is_eq (nat_cmp a b) ≡ eqb a b
at-number a b =
    elim (cases_order a b) [
      | inl same ↦
          ap (λ t. is_eq (cond t Less (cond (eqb a b) Equal Greater))) (le-ltb a b (omega (arith, same))) ∙ ap (λ t. is_eq (cond t Equal Greater)) (eq-eqb a b same) ∙ sym (eq-eqb a b same)
      | inr apart ↦
          elim apart [
            | inl less ↦ ap (λ t. is_eq (cond t Less (cond (eqb a b) Equal Greater))) (lt-ltb a b less) ∙ sym (ne_eqb a b (λ e. omega (arith, e, less)))
            | inr more ↦
                let other = ne_eqb a b (λ e. omega (arith, e, more)) in
                ap (λ t. is_eq (cond t Less (cond (eqb a b) Equal Greater))) (le-ltb a b (omega (arith, more))) ∙ ap (λ t. is_eq (cond t Equal Greater)) other ∙ sym other
          ]
    ]

or-true : (a b : Bool) → cond a true b ≡ (b || a)
or-true true true = refl
or-true true false = refl
or-true false true = refl
or-true false false = refl

or-assoc : (a b c : Bool) → ((a || b) || c) ≡ (a || (b || c))
or-assoc true b c = refl
or-assoc false b c = refl

pub inserted : (old new : BTreeSet ℕ) (x q : ℕ) → Updates nat_cmp old new x true → contains nat_cmp new q ≡ (contains nat_cmp old q || eqb x q)
inserted old new x q is = is.0 q ∙ ap (λ t. cond t true (contains nat_cmp old q)) (at-number x q) ∙ or-true (eqb x q) (contains nat_cmp old q)

-- one more vertex offered
pub one_offered : (old now new : BTreeSet ℕ) (xs : List ℕ) (x : ℕ) (q : ℕ) → contains nat_cmp now q ≡ (contains nat_cmp old q || stands q xs) → Updates nat_cmp now new x true →
    contains nat_cmp new q ≡ (contains nat_cmp old q || stands q (xs ++ x ∷ []))
one_offered old now new xs x q before is =
    inserted now new x q is ∙ ap (λ b. b || eqb x q) before ∙ or-assoc (contains nat_cmp old q) (stands q xs) (eqb x q) ∙
    ap (λ b. contains nat_cmp old q || b) (sym (stands-more q xs x))

-- what is taken out
pub taken_other : (old new : BTreeSet ℕ) (x q : ℕ) → Updates nat_cmp old new x false → (q ≡ x → ⊥) → contains nat_cmp new q ≡ contains nat_cmp old q
taken_other old new x q is ne = is.0 q ∙ ap (λ t. cond t false (contains nat_cmp old q)) (at-number x q ∙ ne_eqb x q (λ e. ne (sym e)))

cond-false : (t b : Bool) → cond t false b ≡ true → b ≡ true
cond-false true b is = absurd (false≢true is)
cond-false false b is = is

pub taken_less : (old new : BTreeSet ℕ) (x q : ℕ) → Updates nat_cmp old new x false → contains nat_cmp new q ≡ true → contains nat_cmp old q ≡ true
taken_less old new x q is there = cond-false (is_eq (nat_cmp x q)) (contains nat_cmp old q) (sym (is.0 q) ∙ there)

-- no number below the first
pub not_gt : (a b : ℕ) → is_gt (nat_cmp a b) ≡ false → a ≤ b
not_gt a b is =
    elim (cases_order a b) [
      | inl same ↦ omega (arith, same)
      | inr apart ↦
          elim apart [
            | inl less ↦ omega (arith, less)
            | inr more ↦
                absurd (false≢true (sym is ∙ ap (λ t. is_gt (cond t Less (cond (eqb a b) Equal Greater))) (le-ltb a b (omega (arith, more))) ∙
                ap (λ t. is_gt (cond t Equal Greater)) (ne_eqb a b (λ e. omega (arith, e, more)))))
          ]
    ]

-- Vertices that ask for modules

same-number : (k x p : ℕ) (askers : List (List ℕ)) → eqb x k ≡ true → stands p (row askers k) ≡ true → stands p (row askers x) ≡ true
same-number k x p askers e there = let In : ℕ → Type 0 = λ j. stands p (row askers j) ≡ true in subst In (sym (eqb-true x k e)) there

pub more_offered : (old now new : BTreeSet ℕ) (held given : List ℕ) (askers : List (List ℕ)) (x : ℕ) → AreOffered old now held given askers →
    ((p : ℕ) → contains nat_cmp new p ≡ (contains nat_cmp now p || stands p (row askers x))) → AreOffered old new held (given ++ x ∷ []) askers
more_offered old now new held given askers x are is = record {
  kept = λ p there. is p ∙ or_left (contains nat_cmp now p) (stands p (row askers x)) (are.kept p there);
  offered = λ k p in' few asks.
      elim (or_cases (stands k given) (eqb x k) (sym (stands-more k given x) ∙ in')) [
        | inl before ↦ is p ∙ or_left (contains nat_cmp now p) (stands p (row askers x)) (are.offered k p before few asks)
        | inr e ↦ is p ∙ or_right (contains nat_cmp now p) (stands p (row askers x)) (same-number k x p askers e asks)
      ];
  small = λ bound before low p there.
      elim (or_cases (contains nat_cmp now p) (stands p (row askers x)) (sym (is p) ∙ there)) [
        | inl on ↦ are.small bound before low p on
        | inr asks ↦ low x p asks
      ];
}

pub none_more_offered : (old now : BTreeSet ℕ) (held given : List ℕ) (askers : List (List ℕ)) (x : ℕ) → 1 < get_or held x 0 → AreOffered old now held given askers →
    AreOffered old now held (given ++ x ∷ []) askers
none_more_offered old now held given askers x many are = record {
  kept = are.kept;
  offered = λ k p in' few asks.
      elim (or_cases (stands k given) (eqb x k) (sym (stands-more k given x) ∙ in')) [
        | inl before ↦ are.offered k p before few asks
        | inr e ↦ let same = ap (λ j. get_or held j 0) (eqb-true x k e) in absurd (omega (arith, same, many, few))
      ];
  small = are.small;
}

-- Counting off

abbrev bit : Bool → ℕ
bit b = if b then 1 else 0

pub times-take : (k i : ℕ) (xs : List ℕ) → times k (take i xs) ≤ times k xs
times-take k zero xs = omega arith
times-take k (suc i) [] = omega arith
times-take k (suc i) (x ∷ xs) = let e = times-take k i xs in omega (arith, e)

pub times-here : (xs : List ℕ) (i k : ℕ) → i < length xs → times k (take (i + 1) xs) ≡ times k (take i xs) + (if eqb (get_or xs i 0) k then 1 else 0)
times-here xs i k below = ap (times k) (take_more xs i 0 below) ∙ times-push k (take i xs) (get_or xs i 0)

pub room : (held old given : List ℕ) (i : ℕ) → i < length given → ((k : ℕ) → get_or held k 0 + times k (take i given) ≡ get_or old k 0) → ((k : ℕ) → times k given ≤ get_or old k 0) →
    1 ≤ get_or held (get_or given i 0) 0
room held old given i below each enough =
    let x = get_or given i 0 in
    let a = each x in
    let b = enough x in
    let d = times-take x (i + 1) given in
    let e = times-here given i x below in
    let g : bit (eqb x x) ≡ bit true = ap bit (eq-eqb x x refl) in
    omega (arith, a, b, d, e, g)

pub within : (held : List ℕ) (x : ℕ) → 1 ≤ get_or held x 0 → x < length held
within held x some =
    elim (cases_lt x (length held)) [
      | inl below ↦ below
      | inr past ↦ let none = get_or_past held x 0 past in absurd (omega (arith, none, some))
    ]

pub counted_off : (held old given : List ℕ) (i : ℕ) → i < length given → ((k : ℕ) → get_or held k 0 + times k (take i given) ≡ get_or old k 0) → 1 ≤ get_or held (get_or given i 0) 0 →
    (k : ℕ) → get_or (set held (get_or given i 0) (get_or held (get_or given i 0) 0 - 1)) k 0 + times k (take (i + 1) given) ≡ get_or old k 0
counted_off held old given i below each some k =
    let x = get_or given i 0 in
    let new = get_or held x 0 - 1 in
    let a = each k in
    let e = times-here given i k below in
    elim (cases_eq k x) [
      | inl same ↦
          let here : get_or (set held x new) k 0 ≡ new = ap (λ j. get_or (set held x new) j 0) same ∙ get_or-set_same held x new 0 (within held x some) in
          let one : bit (eqb x k) ≡ bit true = ap bit (eq-eqb x k (sym same)) in
          let h = ap (λ j. get_or held j 0) same in
          omega (arith, a, e, here, one, h, some)
      | inr ne ↦
          let other = get_or-set_other held x k new 0 ne in
          let none : bit (eqb x k) ≡ bit false = ap bit (ne_eqb x k (λ s. ne (sym s))) in
          omega (arith, a, e, other, none)
    ]
