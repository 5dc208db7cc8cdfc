-- Orders: what comes next hangs on which vertices are left alone, and a group has one order.
use Rattle.std.proofs.Common.{◌≡◌, ℕ, ◌+◌, ◌<◌, Bool, true, false, List, [], ◌∷◌, sym, ap, ◌∙◌, refl, arith, eqb}
use Rattle.std.proofs.lemmas.Bool.{eq-eqb, eqb-true}
use Rattle.std.specs.Prelude.{not, ◌||◌, if◌then◌else◌}
use Rattle.std.specs.List.{list_any}
use Rattle.dependency_order.specs.Orders.{IsInOrder, IsNext, is_free, stands, times}

-- truth values that imply each other are one
pub agree : (a b : Bool) → (a ≡ true → b ≡ true) → (b ≡ true → a ≡ true) → a ≡ b
agree true true one other = refl
agree true false one other = sym (one refl)
agree false true one other = other refl
agree false false one other = refl

-- a vertex stands in a list where it stands there once or more
once : (b others : Bool) (rest : ℕ) → (others ≡ true → 0 < rest) → (b || others) ≡ true → 0 < (if b then 1 else 0) + rest
once true others rest more is = omega arith
once false others rest more is = let above = more is in omega (arith, above)

pub stands-times : (p : ℕ) (ps : List ℕ) → stands p ps ≡ true → 0 < times p ps
stands-times p [] is = absurd (let never : ⊥ = cc in never)
stands-times p (q ∷ qs) is = once (eqb q p) (stands p qs) (times p qs) (stands-times p qs) is

somewhere : (b others : Bool) (rest : ℕ) → (0 < rest → others ≡ true) → 0 < (if b then 1 else 0) + rest → (b || others) ≡ true
somewhere true others rest more is = refl
somewhere false others rest more is = more (omega (arith, is))

pub times-stands : (p : ℕ) (ps : List ℕ) → 0 < times p ps → stands p ps ≡ true
times-stands p [] is = absurd (omega (arith, is))
times-stands p (q ∷ qs) is = somewhere (eqb q p) (stands p qs) (times p qs) (times-stands p qs) is

stands_too : (ps qs : List ℕ) → ((p : ℕ) → times p ps ≡ times p qs) → (p : ℕ) → stands p ps ≡ true → stands p qs ≡ true
stands_too ps qs same p is = let above = stands-times p ps is in let e = same p in times-stands p qs (omega (arith, above, e))

-- what passes a test stands somewhere
passes : (test : ℕ → Bool) (b others : Bool) (q : ℕ) (qs : List ℕ) → test q ≡ b → (others ≡ true → (p : ℕ) × (stands p qs ≡ true) × (test p ≡ true)) → (b || others) ≡ true → (p : ℕ) × (stands p (q ∷ qs) ≡ true) × (test p ≡ true)
passes test true others q qs here more is = (q, ap (λ b. b || stands q qs) (eq-eqb q q refl), here)
passes test false others q qs here more is =
    let found = more is in
    (found.0, behind (eqb q found.0) (stands found.0 qs) found.1, found.2)
  where
    behind : (b c : Bool) → c ≡ true → (b || c) ≡ true
    behind true c e = refl
    behind false c e = e

passer : (test : ℕ → Bool) (ps : List ℕ) → list_any test ps ≡ true → (p : ℕ) × (stands p ps ≡ true) × (test p ≡ true)
passer test [] is = absurd (let never : ⊥ = cc in never)
passer test (q ∷ qs) is = passes test (test q) (list_any test qs) q qs refl (passer test qs) is

passed : (test : ℕ → Bool) (b others found : Bool) (p q : ℕ) → test p ≡ true → (b ≡ true → q ≡ p) → (others ≡ true → found ≡ true) → (b || others) ≡ true → (test q || found) ≡ true
passed test true others found p q holds here more is = ap (λ b. b || found) (ap test (here refl) ∙ holds)
passed test false others found p q holds here more is = second (test q) found (more is)
  where
    second : (b c : Bool) → c ≡ true → (b || c) ≡ true
    second true c e = refl
    second false c e = e

any_where : (test : ℕ → Bool) (p : ℕ) (ps : List ℕ) → test p ≡ true → stands p ps ≡ true → list_any test ps ≡ true
any_where test p [] holds is = is
any_where test p (q ∷ qs) holds is =
    passed test (eqb q p) (stands p qs) (list_any test qs) p q holds (eqb-true q p) (any_where test p qs holds) is

any-same : (test : ℕ → Bool) (ps qs : List ℕ) → ((p : ℕ) → times p ps ≡ times p qs) → list_any test ps ≡ true → list_any test qs ≡ true
any-same test ps qs same is =
    let found = passer test ps is in any_where test found.0 qs found.2 (stands_too ps qs same found.0 found.1)

free-same : (waits : ℕ → ℕ → Bool) (ps qs : List ℕ) → ((p : ℕ) → times p ps ≡ times p qs) → (p : ℕ) → is_free waits ps p ≡ is_free waits qs p
free-same waits ps qs same p =
    ap not (agree (list_any (waits p) ps) (list_any (waits p) qs) (any-same (waits p) ps qs same) (any-same (waits p) qs ps (λ q. sym (same q))))

-- what comes next
next-same : (waits : ℕ → ℕ → Bool) (ps qs : List ℕ) → ((p : ℕ) → times p ps ≡ times p qs) → (p : ℕ) → IsNext waits ps p → IsNext waits qs p
next-same waits ps qs same p (IsNext.free is least) =
    IsNext.free (sym (free-same waits ps qs same p) ∙ is)
    (λ q there so. least q (stands_too qs ps (λ r. sym (same r)) q there) (free-same waits ps qs same q ∙ so))
next-same waits ps qs same p (IsNext.circled none least) =
    IsNext.circled (λ q there. sym (free-same waits ps qs same q) ∙ none q (stands_too qs ps (λ r. sym (same r)) q there))
    (λ q there. least q (stands_too qs ps (λ r. sym (same r)) q there))

next-one : (waits : ℕ → ℕ → Bool) (left : List ℕ) (p q : ℕ) → stands p left ≡ true → stands q left ≡ true → IsNext waits left p → IsNext waits left q → p ≡ q
next-one waits left p q one other (IsNext.free is least) (IsNext.free so lesser) =
    let below = least q other so in let above = lesser p one is in omega (arith, below, above)
next-one waits left p q one other (IsNext.free is least) (IsNext.circled none lesser) =
    absurd (let no = none p one in let never : ⊥ = cc in never)
next-one waits left p q one other (IsNext.circled none least) (IsNext.free so lesser) =
    absurd (let no = none q other in let never : ⊥ = cc in never)
next-one waits left p q one other (IsNext.circled none least) (IsNext.circled nor lesser) =
    let below = least q other in let above = lesser p one in omega (arith, below, above)

-- one order
begins : (p : ℕ) (ps : List ℕ) → stands p (p ∷ ps) ≡ true
begins p ps = ap (λ b. b || stands p ps) (eq-eqb p p refl)

pub orders-same : (waits : ℕ → ℕ → Bool) (ps qs : List ℕ) → ((p : ℕ) → times p ps ≡ times p qs) → IsInOrder waits ps → IsInOrder waits qs → ps ≡ qs
orders-same waits [] [] same one other = refl
orders-same waits [] (q ∷ qs) same one other =
    let above = stands-times q (q ∷ qs) (begins q qs) in let e = same q in absurd (omega (arith, above, e))
orders-same waits (p ∷ ps) [] same one other =
    let above = stands-times p (p ∷ ps) (begins p ps) in let e = same p in absurd (omega (arith, above, e))
orders-same waits (p ∷ ps) (q ∷ qs) same one other =
    let there = stands_too (q ∷ qs) (p ∷ ps) (λ r. sym (same r)) q (begins q qs) in
    let next = next-same waits (q ∷ qs) (p ∷ ps) (λ r. sym (same r)) q other.0 in
    let e = next-one waits (p ∷ ps) p q (begins p ps) there one.0 next in
    ap (λ r. r ∷ ps) e ∙ ap (λ rs. q ∷ rs) (orders-same waits ps qs (λ r. rest e r) one.1 other.1)
  where
    rest : p ≡ q → (r : ℕ) → times r ps ≡ times r qs
    rest e r =
        let here = same r in
        let counted : ℕ → ℕ = λ s. if eqb s r then 1 else 0 in
        let first = ap counted e in
        omega (arith, here, first)
