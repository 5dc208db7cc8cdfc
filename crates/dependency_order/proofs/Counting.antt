-- How many pass a test: of the numbers that stand in a list, and all but one of them.
use Rattle.std.proofs.Common.{◌≡◌, ◌<◌, ◌≤◌, ◌+◌, ℕ, zero, suc, Bool, true, false, cond, not, ◌&&◌, inl, inr, List, [], ◌∷◌, ◌++◌, length, eqb, if◌then◌else◌, get_or, set, sym, ap, ◌∙◌, refl, subst, arith, filter}
use Rattle.std.specs.List.{range_with_len}
use Rattle.std.proofs.lemmas.Bool.{cases_eq, cases_lt, eq-eqb, eqb-true, false≢true, false_from_ne_true, ne_eqb, or_cases, or_left, or_right}
use Rattle.dependency_order.specs.Lists.{upto}
use Rattle.dependency_order.specs.Orders.{how_many, stands, times}
use Rattle.dependency_order.proofs.Upto.{below-range}

none-step : (b : Bool) (rest : ℕ) → (if b then 1 else 0) + rest ≡ 0 → (b ≡ false) × (rest ≡ 0)
none-step true rest is = absurd (omega (arith, is))
none-step false rest is = (refl, omega (arith, is))

pub how_many-none : (test : ℕ → Bool) (xs : List ℕ) → how_many test xs ≡ 0 → (p : ℕ) → stands p xs ≡ true → test p ≡ false
how_many-none test [] is p there = absurd (false≢true there)
how_many-none test (x ∷ xs) is p there =
    let both = none-step (test x) (how_many test xs) is in
    elim (or_cases (eqb x p) (stands p xs) there) [
      | inl e ↦ ap test (sym (eqb-true x p e)) ∙ both.0
      | inr on ↦ how_many-none test xs both.1 p on
    ]

-- some that passes
pub record Passer (test : ℕ → Bool) (xs : List ℕ) : Type 0 where
  pub item : ℕ
  pub there : stands item xs ≡ true
  pub passes : test item ≡ true

some-step : (b : Bool) (test : ℕ → Bool) (x : ℕ) (xs : List ℕ) → test x ≡ b → (0 < how_many test xs → Passer test xs) → 0 < (if b then 1 else 0) + how_many test xs → Passer test (x ∷ xs)
some-step true test x xs so rest more = record { item = x; there = or_left (eqb x x) (stands x xs) (eq-eqb x x refl); passes = so }
some-step false test x xs so rest more =
    let on = rest (omega (arith, more)) in
    record { item = on.item; there = or_right (eqb x on.item) (stands on.item xs) on.there; passes = on.passes }

pub how_many-some : (test : ℕ → Bool) (xs : List ℕ) → 0 < how_many test xs → Passer test xs
how_many-some test [] more = absurd (omega (arith, more))
how_many-some test (x ∷ xs) more = some-step (test x) test x xs refl (how_many-some test xs) more

pub how_many-agree : (f g : ℕ → Bool) (xs : List ℕ) → ((p : ℕ) → stands p xs ≡ true → f p ≡ g p) → how_many f xs ≡ how_many g xs
how_many-agree f g [] agree = refl
how_many-agree f g (x ∷ xs) agree =
    let one = agree x (or_left (eqb x x) (stands x xs) (eq-eqb x x refl)) in
    ap (λ b. (if b then 1 else 0) + how_many f xs) one ∙
    ap (λ n. (if g x then 1 else 0) + n) (how_many-agree f g xs (λ p there. agree p (or_right (eqb x p) (stands p xs) there)))

how_many-never : (xs : List ℕ) → how_many (λ (q : ℕ). false) xs ≡ 0
how_many-never [] = refl
how_many-never (x ∷ xs) = let e = how_many-never xs in omega (arith, e)

pub how_many-zero : (test : ℕ → Bool) (xs : List ℕ) → ((p : ℕ) → stands p xs ≡ true → test p ≡ false) → how_many test xs ≡ 0
how_many-zero test xs none = how_many-agree test (λ q. false) xs none ∙ how_many-never xs

split-step : (t tp e : Bool) (all others here : ℕ) → (e ≡ true → t ≡ tp) → all ≡ others + (if tp then here else 0) →
    (if t then 1 else 0) + all ≡ ((if t && not e then 1 else 0) + others) + (if tp then (if e then 1 else 0) + here else 0)
split-step true true true all others here same is = omega (arith, is)
split-step true true false all others here same is = omega (arith, is)
split-step true false true all others here same is = absurd (let never : true ≡ false = same refl in false≢true (sym never))
split-step true false false all others here same is = omega (arith, is)
split-step false true true all others here same is = absurd (false≢true (same refl))
split-step false true false all others here same is = omega (arith, is)
split-step false false true all others here same is = omega (arith, is)
split-step false false false all others here same is = omega (arith, is)

at-nil : (b : Bool) → times 0 [] ≡ 0 + (if b then 0 else 0)
at-nil true = omega arith
at-nil false = omega arith

-- those that pass, with one of them told apart
pub how_many-split : (test : ℕ → Bool) (p : ℕ) (xs : List ℕ) → how_many test xs ≡ how_many (λ q. test q && not (eqb q p)) xs + (if test p then times p xs else 0)
how_many-split test p [] = at-nil (test p)
how_many-split test p (x ∷ xs) =
    split-step (test x) (test p) (eqb x p) (how_many test xs) (how_many (λ q. test q && not (eqb q p)) xs) (times p xs)
    (λ e. ap test (eqb-true x p e)) (how_many-split test p xs)

-- how often a number stands somewhere
pub times-absent : (p : ℕ) (xs : List ℕ) → stands p xs ≡ false → times p xs ≡ 0
times-absent p xs no' =
    how_many-zero (λ q. eqb q p) xs
    (λ q there.
    false_from_ne_true (eqb q p)
    (λ e. let In : ℕ → Type 0 = λ r. stands r xs ≡ true in false≢true (sym no' ∙ subst In (eqb-true q p e) there)))

times-range : (a n p : ℕ) → a ≤ p → p < a + n → times p (range_with_len a n) ≡ 1
times-range a zero p low high = absurd (omega (arith, low, high))
times-range a (suc n) p low high =
    elim (cases_eq a p) [
      | inl e ↦
          let rest : times p (range_with_len (a + 1) n) ≡ 0 =
          times-absent p (range_with_len (a + 1) n)
          (false_from_ne_true (stands p (range_with_len (a + 1) n)) (λ there. let b = below-range (a + 1) n p there in omega (arith, b, e))) in
          ap (λ b. (if b then 1 else 0) + times p (range_with_len (a + 1) n)) (eq-eqb a p e) ∙ ap (λ k. 1 + k) rest
      | inr ne ↦
          let rest = times-range (a + 1) n p (omega (arith, low, ne)) (omega (arith, high)) in
          ap (λ b. (if b then 1 else 0) + times p (range_with_len (a + 1) n)) (ne_eqb a p ne) ∙ ap (λ k. 0 + k) rest
    ]

pub times-upto : (n p : ℕ) → p < n → times p (upto n) ≡ 1
times-upto n p below = times-range 0 n p (omega arith) (omega (arith, below))

pub times-past : (n p : ℕ) → n ≤ p → times p (upto n) ≡ 0
times-past n p past =
    times-absent p (upto n) (false_from_ne_true (stands p (upto n)) (λ there. let b = below-range 0 n p there in omega (arith, b, past)))

pub times-upto-one : (n p : ℕ) → times p (upto n) ≤ 1
times-upto-one n p =
    elim (cases_lt p n) [
      | inl below ↦ let e = times-upto n p below in omega (arith, e)
      | inr past ↦ let e = times-past n p past in omega (arith, e)
    ]

filter-step : (t tp e : Bool) (x p : ℕ) (xs ys : List ℕ) → eqb x p ≡ e → (e ≡ true → t ≡ tp) → times p ys ≡ (if tp then times p xs else 0) →
    times p (cond t (x ∷ ys) ys) ≡ (if tp then (if e then 1 else 0) + times p xs else 0)
filter-step true true e x p xs ys same agree is = ap (λ b. (if b then 1 else 0) + times p ys) same ∙ ap (λ n. (if e then 1 else 0) + n) is
filter-step true false true x p xs ys same agree is = absurd (let never : true ≡ false = agree refl in false≢true (sym never))
filter-step true false false x p xs ys same agree is = ap (λ b. (if b then 1 else 0) + times p ys) same ∙ omega (arith, is)
filter-step false true true x p xs ys same agree is = absurd (false≢true (agree refl))
filter-step false true false x p xs ys same agree is = omega (arith, is)
filter-step false false e x p xs ys same agree is = is

filter-nil : (b : Bool) → times 0 [] ≡ (if b then 0 else 0)
filter-nil true = refl
filter-nil false = refl

pub times-filter : (test : ℕ → Bool) (p : ℕ) (xs : List ℕ) → times p (filter test xs) ≡ (if test p then times p xs else 0)
times-filter test p [] = filter-nil (test p)
times-filter test p (x ∷ xs) =
    filter-step (test x) (test p) (eqb x p) x p xs (filter test xs) refl (λ e. ap test (eqb-true x p e)) (times-filter test p xs)

length-step : (b : Bool) (x : ℕ) (xs : List ℕ) (n : ℕ) → length xs ≡ n → length (cond b (x ∷ xs) xs) ≡ (if b then 1 else 0) + n
length-step true x xs n is = omega (arith, is)
length-step false x xs n is = omega (arith, is)

pub length-filtered : (test : ℕ → Bool) (xs : List ℕ) → length (filter test xs) ≡ how_many test xs
length-filtered test [] = refl
length-filtered test (x ∷ xs) = length-step (test x) x (filter test xs) (how_many test xs) (length-filtered test xs)

pub times-append : (p : ℕ) (xs ys : List ℕ) → times p (xs ++ ys) ≡ times p xs + times p ys
times-append p [] ys = omega arith
times-append p (x ∷ xs) ys =
    let e = times-append p xs ys in
    ap (λ n. (if eqb x p then 1 else 0) + n) e ∙ omega arith

pub times-push : (p : ℕ) (xs : List ℕ) (x : ℕ) → times p (xs ++ x ∷ []) ≡ times p xs + (if eqb x p then 1 else 0)
times-push p xs x = times-append p xs (x ∷ []) ∙ omega arith

-- one vertex less
bit-set : (b : Bool) (rest : ℕ) → b ≡ true → (if false then 1 else 0) + rest < (if b then 1 else 0) + rest
bit-set true rest is = omega arith
bit-set false rest is = absurd (false≢true is)

pub fewer : (left : List Bool) (p : ℕ) → get_or left p false ≡ true → how_many (λ (b : Bool). b) (set left p false) < how_many (λ (b : Bool). b) left
fewer [] p is = absurd (false≢true is)
fewer (b ∷ bs) zero is = bit-set b (how_many (λ (b : Bool). b) bs) is
fewer (b ∷ bs) (suc p) is = let rest = fewer bs p is in omega (arith, rest)
