-- Groups have each vertex once, and so have their orders.
use Rattle.std.proofs.Common.{◌≡◌, ◌<◌, ◌≤◌, ℕ, Bool, true, false, inl, inr, List, [], ◌∷◌, length, eqb, if◌then◌else◌, get_or, sym, ap, ◌∙◌, refl, subst, arith}
use Rattle.std.specs.List.{flat_map, range_with_len}
use Rattle.std.specs.List.Sorted.{IsPermutation}
use Rattle.std.proofs.lemmas.Bool.{cases_lt, eq-eqb}
use Rattle.std.proofs.lemmas.List.Folds.{flat_map-map}
use Rattle.dependency_order.specs.declared.group.Group.{Group}
use Rattle.dependency_order.specs.Dealt.{is_of}
use Rattle.dependency_order.specs.Groups.{AreFirsts, AreGroups, IsJoined, leaders, members}
use Rattle.dependency_order.specs.Lists.{upto}
use Rattle.dependency_order.specs.Orders.{AreOrdered, AreOrderedGroups, how_many, times}
use Rattle.dependency_order.proofs.Chains.{first-joined}
use Rattle.dependency_order.proofs.Counting.{how_many-agree, times-append, times-filter, times-past, times-upto}
use Rattle.dependency_order.proofs.Dealing.{leaders-upto, members-upto}
use Rattle.dependency_order.proofs.Permuting.{flat_map-permuted}

member : (firsts : List ℕ) (f p : ℕ) → times p (members firsts f) ≡ (if is_of firsts f p then times p (upto (length firsts)) else 0)
member firsts f p = ap (times p) (members-upto firsts f) ∙ times-filter (is_of firsts f) p (upto (length firsts))

-- a vertex behind the last is in no group
none : (b : Bool) (n : ℕ) → n ≡ 0 → (if b then n else 0) ≡ 0
none true n is = is
none false n is = refl

past-all : (firsts ls : List ℕ) (p : ℕ) → length firsts ≤ p → times p (flat_map (members firsts) ls) ≡ 0
past-all firsts [] p past = refl
past-all firsts (f ∷ fs) p past =
    let here = member firsts f p ∙ none (is_of firsts f p) (times p (upto (length firsts))) (times-past (length firsts) p past) in
    let rest = past-all firsts fs p past in
    let both = times-append p (members firsts f) (flat_map (members firsts) fs) in
    omega (arith, here, rest, both)

-- a vertex is in as many groups as its first member leads
one : (b : Bool) (n : ℕ) → n ≡ 1 → (if b then n else 0) ≡ (if b then 1 else 0)
one true n is = is
one false n is = refl

within-all : (firsts ls : List ℕ) (p : ℕ) → p < length firsts → times p (flat_map (members firsts) ls) ≡ how_many (λ f. is_of firsts f p) ls
within-all firsts [] p within = refl
within-all firsts (f ∷ fs) p within =
    let here = member firsts f p ∙ one (is_of firsts f p) (times p (upto (length firsts))) (times-upto (length firsts) p within) in
    let rest = within-all firsts fs p within in
    let both = times-append p (members firsts f) (flat_map (members firsts) fs) in
    omega (arith, here, rest, both)

-- and it leads one
eqb-turned : (a b : ℕ) → eqb a b ≡ eqb b a
eqb-turned a b = grind arith

leads-one : (names : ℕ → ℕ → Bool) (count : ℕ) (firsts : List ℕ) → AreFirsts names count firsts → (p : ℕ) → p < count → how_many (λ f. is_of firsts f p) (leaders firsts) ≡ 1
leads-one names count firsts are p within =
    let first : ℕ = get_or firsts p 0 in
    let is = are.each p within in
    let low : first < count = let least = is.least p IsJoined.itself in omega (arith, least, within) in
    let same : first ≡ get_or firsts first 0 = first-joined names p first first (get_or firsts first 0) is.joined is (are.each first low) in
    let listed : first < length firsts = let many = are.many in omega (arith, low, many) in
    how_many-agree (λ f. is_of firsts f p) (λ f. eqb f first) (leaders firsts) (λ f there. eqb-turned first f) ∙
    ap (times first) (leaders-upto firsts) ∙
    times-filter (λ l. eqb (get_or firsts l 0) l) first (upto (length firsts)) ∙
    ap (λ b. if b then times first (upto (length firsts)) else 0) (eq-eqb (get_or firsts first 0) first (sym same)) ∙
    times-upto (length firsts) first listed

pub groups-once : (names : ℕ → ℕ → Bool) (count : ℕ) (groups : List (List ℕ)) → AreGroups names count groups → (p : ℕ) → times p (flat_map (λ g. g) groups) ≡ times p (upto count)
groups-once names count groups are p =
    ap (times p) (ap (flat_map (λ (g : List ℕ). g)) are.is ∙ flat_map-map (λ (g : List ℕ). g) (members are.firsts) (leaders are.firsts)) ∙
    elim (cases_lt p count) [
      | inl within ↦
          let many = are.are.many in
          within-all are.firsts (leaders are.firsts) p (omega (arith, within, many)) ∙ leads-one names count are.firsts are.are p within ∙ sym (times-upto count p within)
      | inr past ↦
          let many = are.are.many in
          past-all are.firsts (leaders are.firsts) p (omega (arith, past, many)) ∙ sym (times-past count p past)
    ]

-- Orders of the groups, one behind the other

dependencies-same : (names : ℕ → ℕ → Bool) (gs : List (List ℕ)) (os : List Group) → AreOrdered names gs os → (p : ℕ) → times p (flat_map (λ g. g) gs) ≡ times p (flat_map (λ o. o.dependencies_first) os)
dependencies-same names [] [] are p = refl
dependencies-same names [] (o ∷ os) are p = absurd are
dependencies-same names (g ∷ gs) [] are p = absurd are
dependencies-same names (g ∷ gs) (o ∷ os) are p =
    let here = are.0.dependencies.same p in
    let rest = dependencies-same names gs os are.1 p in
    let one = times-append p g (flat_map (λ (h : List ℕ). h) gs) in
    let other = times-append p o.dependencies_first (flat_map (λ (q : Group). q.dependencies_first) os) in
    omega (arith, here, rest, one, other)

dependants-same : (names : ℕ → ℕ → Bool) (gs : List (List ℕ)) (os : List Group) → AreOrdered names gs os → (p : ℕ) → times p (flat_map (λ g. g) gs) ≡ times p (flat_map (λ o. o.dependants_first) os)
dependants-same names [] [] are p = refl
dependants-same names [] (o ∷ os) are p = absurd are
dependants-same names (g ∷ gs) [] are p = absurd are
dependants-same names (g ∷ gs) (o ∷ os) are p =
    let here = are.0.dependants.same p in
    let rest = dependants-same names gs os are.1 p in
    let one = times-append p g (flat_map (λ (h : List ℕ). h) gs) in
    let other = times-append p o.dependants_first (flat_map (λ (q : Group). q.dependants_first) os) in
    omega (arith, here, rest, one, other)

singles : (xs : List ℕ) → flat_map (λ p. p ∷ []) xs ≡ xs
singles [] = refl
singles (x ∷ xs) = ap (λ ys. x ∷ ys) (singles xs)

permuted : (xs ys : List ℕ) → ((p : ℕ) → times p xs ≡ times p ys) → IsPermutation xs ys
permuted xs ys same =
    let From : List ℕ → Type 0 = λ us. IsPermutation us ys in
    let To : List ℕ → Type 0 = λ vs. IsPermutation (flat_map (λ p. p ∷ []) xs) vs in
    subst From (singles xs) (subst To (singles ys) (flat_map-permuted (λ p. p ∷ []) xs ys same))

pub each-once : (names : ℕ → ℕ → Bool) (count : ℕ) (ordered : List Group) → AreOrderedGroups names count ordered →
    IsPermutation (range_with_len 0 count) (flat_map (λ g. g.dependencies_first) ordered) × IsPermutation (range_with_len 0 count) (flat_map (λ g. g.dependants_first) ordered)
each-once names count ordered are = (
  permuted (upto count) (flat_map (λ (o : Group). o.dependencies_first) ordered)
      (λ p. sym (groups-once names count are.groups are.are p) ∙ dependencies-same names are.groups ordered are.are_ordered p),
  permuted (upto count) (flat_map (λ (o : Group). o.dependants_first) ordered)
      (λ p. sym (groups-once names count are.groups are.are p) ∙ dependants-same names are.groups ordered are.are_ordered p),
)
