-- The numbers below a count, and those of them that pass a test.
use Rattle.std.proofs.Common.{◌≡◌, ◌<◌, ◌≤◌, ◌+◌, ℕ, zero, suc, Bool, true, false, cond, ◌⊎◌, inl, inr, List, [], ◌∷◌, ◌++◌, eqb, if◌then◌else◌, sym, ap, ◌∙◌, refl, arith, add-zero, add-one, filter, All}
use Rattle.std.specs.List.{range_with_len}
use Rattle.std.proofs.lemmas.Bool.{cases_Bool, cases_eq, eq-eqb, eqb-true, false≢true, or_cases, or_left, or_right}
use Rattle.std.proofs.lemmas.List.Elements.{All-cons, All-nil, filter-append}
use Rattle.dependency_order.specs.Lists.{upto}
use Rattle.dependency_order.specs.Orders.{stands}

range-more : (a n : ℕ) → range_with_len a (suc n) ≡ range_with_len a n ++ (a + n) ∷ []
range-more a zero = ap (λ k. k ∷ []) (sym (add-zero a))
range-more a (suc n) =
    let e : (a + 1) + n ≡ a + suc n = omega arith in
    ap (λ ks. a ∷ ks) (range-more (a + 1) n ∙ ap (λ k. range_with_len (a + 1) n ++ k ∷ []) e)

pub upto-more : (n : ℕ) → upto (n + 1) ≡ upto n ++ n ∷ []
upto-more n =
    let e : 0 + n ≡ n = omega arith in
    ap upto (add-one n) ∙ range-more 0 n ∙ ap (λ k. upto n ++ k ∷ []) e

pub filter-more : (test : ℕ → Bool) (n : ℕ) → filter test (upto (n + 1)) ≡ filter test (upto n) ++ (if test n then n ∷ [] else [])
filter-more test n = ap (filter test) (upto-more n) ∙ filter-append test (upto n) (n ∷ [])

-- which numbers stand there
pub below-range : (a n p : ℕ) → stands p (range_with_len a n) ≡ true → (a ≤ p) × (p < a + n)
below-range a zero p is = absurd (false≢true is)
below-range a (suc n) p is =
    elim (or_cases (eqb a p) (stands p (range_with_len (a + 1) n)) is) [
      | inl e ↦ let same = eqb-true a p e in (omega (arith, same), omega (arith, same))
      | inr there ↦ let rest = below-range (a + 1) n p there in (omega (arith, rest), omega (arith, rest))
    ]

pub below-upto : (n p : ℕ) → stands p (upto n) ≡ true → p < n
below-upto n p is = let b = below-range 0 n p is in omega (arith, b)

stands-range : (a n p : ℕ) → a ≤ p → p < a + n → stands p (range_with_len a n) ≡ true
stands-range a zero p low high = absurd (omega (arith, low, high))
stands-range a (suc n) p low high =
    elim (cases_eq a p) [
      | inl e ↦ or_left (eqb a p) (stands p (range_with_len (a + 1) n)) (eq-eqb a p e)
      | inr ne ↦ or_right (eqb a p) (stands p (range_with_len (a + 1) n)) (stands-range (a + 1) n p (omega (arith, low, ne)) (omega (arith, high)))
    ]

pub stands-upto : (n p : ℕ) → p < n → stands p (upto n) ≡ true
stands-upto n p below = stands-range 0 n p (omega arith) (omega (arith, below))

-- what stands in a filtered list
kept : (b : Bool) (x p : ℕ) (rest : List ℕ) → stands p (cond b (x ∷ rest) rest) ≡ true → ((b ≡ true) × (eqb x p ≡ true)) ⊎ (stands p rest ≡ true)
kept true x p rest is = elim (or_cases (eqb x p) (stands p rest) is) [ inl e ↦ inl (refl, e) | inr there ↦ inr there ]
kept false x p rest is = inr is

pub passes : (test : ℕ → Bool) (p : ℕ) (xs : List ℕ) → stands p (filter test xs) ≡ true → (test p ≡ true) × (stands p xs ≡ true)
passes test p [] is = absurd (false≢true is)
passes test p (x ∷ xs) is =
    elim (kept (test x) x p (filter test xs) is) [
      | inl both ↦ (ap test (sym (eqb-true x p both.1)) ∙ both.0, or_left (eqb x p) (stands p xs) both.1)
      | inr there ↦ let on = passes test p xs there in (on.0, or_right (eqb x p) (stands p xs) on.1)
    ]

keeps : (b : Bool) (x p : ℕ) (rest : List ℕ) → stands p rest ≡ true → stands p (cond b (x ∷ rest) rest) ≡ true
keeps true x p rest is = or_right (eqb x p) (stands p rest) is
keeps false x p rest is = is

keeps-head : (b : Bool) (x p : ℕ) (rest : List ℕ) → b ≡ true → eqb x p ≡ true → stands p (cond b (x ∷ rest) rest) ≡ true
keeps-head true x p rest so e = or_left (eqb x p) (stands p rest) e
keeps-head false x p rest so e = absurd (false≢true so)

pub stays : (test : ℕ → Bool) (p : ℕ) (xs : List ℕ) → test p ≡ true → stands p xs ≡ true → stands p (filter test xs) ≡ true
stays test p [] so is = absurd (false≢true is)
stays test p (x ∷ xs) so is =
    elim (or_cases (eqb x p) (stands p xs) is) [
      | inl e ↦ keeps-head (test x) x p (filter test xs) (ap test (eqb-true x p e) ∙ so) e
      | inr there ↦ keeps (test x) x p (filter test xs) (stays test p xs so there)
    ]

-- of the numbers below a count
pub stands-filtered : (test : ℕ → Bool) (n p : ℕ) → p < n → stands p (filter test (upto n)) ≡ test p
stands-filtered test n p below =
    elim (cases_Bool (test p)) [
      | inl so ↦ stays test p (upto n) so (stands-upto n p below) ∙ sym so
      | inr no' ↦
          elim (cases_Bool (stands p (filter test (upto n)))) [
            | inl there ↦ absurd (false≢true (sym no' ∙ (passes test p (upto n) there).0))
            | inr not' ↦ not' ∙ sym no'
          ]
    ]

-- an item of a list stands in it, and what stands in a list of small numbers is small
pub all-from_stands : (bound : ℕ) (xs : List ℕ) → ((p : ℕ) → stands p xs ≡ true → p < bound) → All (λ p. p < bound) xs
all-from_stands bound [] each = All-nil (λ p. p < bound)
all-from_stands bound (x ∷ xs) each =
    All-cons (λ p. p < bound) x xs (each x (or_left (eqb x x) (stands x xs) (eq-eqb x x refl)))
    (all-from_stands bound xs (λ p there. each p (or_right (eqb x p) (stands p xs) there)))

pub below-filtered : (test : ℕ → Bool) (n : ℕ) → All (λ p. p < n) (filter test (upto n))
below-filtered test n = all-from_stands n (filter test (upto n)) (λ p there. below-upto n p (passes test p (upto n) there).1)

pub stands-below : (bound : ℕ) (xs : List ℕ) (p : ℕ) → All (λ q. q < bound) xs → stands p xs ≡ true → p < bound
stands-below bound [] p all is = absurd (false≢true is)
stands-below bound (x ∷ xs) p all is =
    elim (or_cases (eqb x p) (stands p xs) is) [
      | inl e ↦ let same = eqb-true x p e in let low = all 0 0 (omega arith) in omega (arith, same, low)
      | inr there ↦ stands-below bound xs p (λ k d below. all (suc k) d (omega (arith, below))) there
    ]
