-- What is known once a vertex is taken, and at the start.
use Rattle.std.proofs.Common.{◌≡◌, ◌<◌, ◌≤◌, ◌+◌, ℕ, Bool, true, false, not, ◌||◌, ◌&&◌, inl, inr, List, [], ◌∷◌, length, eqb, if◌then◌else◌, get_or, set, sym, ap, ◌∙◌, refl, subst, arith, All, Vec, Global, nat_cmp, length-set, get_or-set_same, get_or-set_other, replicate, map, ltb}
use Rattle.std.specs.Vec.{with_item}
use Rattle.std.specs.BTreeSet.{BTreeSet, contains}
use Rattle.std.proofs.lemmas.Bool.{and_from, and_left, and_parts, cases_Bool, cases_eq, cases_lt, eq-eqb, eqb-true, false≢true, false_from_ne_true, lt-ltb, ltb-true, ne_eqb, or_cases, or_left, or_right}
use Rattle.std.proofs.lemmas.List.{get_or-map, get_or-replicate, get_or_past, length-map, length-replicate}
use Rattle.std.proofs.lemmas.List.Folds.{list_any_at}
use Rattle.dependency_order.specs.declared.order.Left.{Left}
use Rattle.dependency_order.specs.Left.{AreBothWays, AreOffered, IsClear, Knows, gives_it, is_left, is_passed, meets, waits_by}
use Rattle.dependency_order.specs.Lists.{row, upto}
use Rattle.dependency_order.specs.Orders.{stands, times}
use Rattle.dependency_order.proofs.Counting.{how_many-agree, how_many-zero, length-filtered, times-absent, times-filter, times-upto-one}
use Rattle.dependency_order.proofs.Upto.{all-from_stands, below-filtered, below-upto, stands-below, stands-filtered}
use Rattle.dependency_order.proofs.Waiting.{all_of, left-below, others, vertex_of, with_itself}

abbrev bit : Bool → ℕ
bit b = if b then 1 else 0

-- Relations

pub module-below : (count : ℕ) (modules vertices : List (List ℕ)) (k p : ℕ) → AreBothWays count modules vertices → stands k (row modules p) ≡ true → (k < count) × (p < count)
module-below count modules vertices k p both there =
    elim (cases_lt p count) [
      | inl below ↦
          let In : List ℕ → Type 0 = λ xs. stands k xs ≡ true in
          let Small : List ℕ → Type 0 = λ xs. All (λ q. q < count) xs in
          let small = subst Small (sym (both.forth p below)) (below-filtered (λ j. stands p (row vertices j)) count) in
          (stands-below count (row modules p) k small there, below)
      | inr past ↦
          let many = both.many_modules in
          let none = get_or_past modules p [] (omega (arith, past, many)) in
          absurd (false≢true (sym (ap (stands k) none) ∙ there))
    ]

times-some : (t : Bool) (n : ℕ) → n ≤ 1 → (if t then n else 0) ≤ 1
times-some true n few = few
times-some false n few = omega arith

module-once : (count : ℕ) (modules vertices : List (List ℕ)) (k p : ℕ) → AreBothWays count modules vertices → p < count → times k (row modules p) ≤ 1
module-once count modules vertices k p both below =
    let e = ap (times k) (both.forth p below) ∙ times-filter (λ j. stands p (row vertices j)) k (upto count) in
    let few = times-some (stands p (row vertices k)) (times k (upto count)) (times-upto-one count k) in
    omega (arith, e, few)

once-or-none : (k : ℕ) (xs : List ℕ) (b : Bool) → stands k xs ≡ b → times k xs ≤ 1 → times k xs ≡ bit b
once-or-none k xs false is few = times-absent k xs is
once-or-none k xs true is few = let some = positive k xs is in omega (arith, some, few)
  where
    positive : (k : ℕ) (xs : List ℕ) → stands k xs ≡ true → 0 < times k xs
    positive k [] is = absurd (false≢true is)
    positive k (x ∷ xs) is =
        elim (or_cases (eqb x k) (stands k xs) is) [
          | inl e ↦ let one = ap bit e in let two : bit (eqb x k) ≡ bit true = one in omega (arith, two)
          | inr on ↦ let rest = positive k xs on in omega (arith, rest)
        ]

pub module-bit : (count : ℕ) (modules vertices : List (List ℕ)) (k p : ℕ) → AreBothWays count modules vertices → p < count → times k (row modules p) ≡ bit (stands k (row modules p))
module-bit count modules vertices k p both below = once-or-none k (row modules p) (stands k (row modules p)) refl (module-once count modules vertices k p both below)

pub asker-of : (count : ℕ) (modules vertices : List (List ℕ)) (k p : ℕ) → AreBothWays count modules vertices → k < count → p < count → stands k (row modules p) ≡ true → stands p (row vertices k) ≡ true
asker-of count modules vertices k p both below in' there =
    ap (stands p) (both.back k below) ∙ stands-filtered (λ q. stands k (row modules q)) count p in' ∙ there

pub vertex-below : (count : ℕ) (modules vertices : List (List ℕ)) (k p : ℕ) → AreBothWays count modules vertices → stands p (row vertices k) ≡ true → p < count
vertex-below count modules vertices k p both there =
    elim (cases_lt k count) [
      | inl below ↦
          let Small : List ℕ → Type 0 = λ xs. All (λ q. q < count) xs in
          stands-below count (row vertices k) p (subst Small (sym (both.back k below)) (below-filtered (λ q. stands k (row modules q)) count)) there
      | inr past ↦
          let many = both.many_vertices in
          absurd (false≢true (sym (ap (stands p) (get_or_past vertices k [] (omega (arith, past, many)))) ∙ there))
    ]

-- One vertex less

left-other : (left : List Bool) (x q : ℕ) → x < length left → is_left (set left x false) q ≡ true → (q ≡ x → ⊥) × (is_left left q ≡ true)
left-other left x q below is =
    elim (cases_eq q x) [
      | inl e ↦ absurd (false≢true (sym (ap (λ r. get_or (set left x false) r false) e ∙ get_or-set_same left x false false below) ∙ is))
      | inr ne ↦ (ne, sym (get_or-set_other left x q false false ne) ∙ is)
    ]

and-not : (a : Bool) → (a && not true) ≡ false
and-not true = refl
and-not false = refl

and-yes : (a : Bool) → (a && not false) ≡ a
and-yes true = refl
and-yes false = refl

without : (gives : List (List ℕ)) (left : List Bool) (k x q : ℕ) → x < length left → (gives_it gives left k q && not (eqb q x)) ≡ gives_it gives (set left x false) k q
without gives left k x q below =
    elim (cases_eq q x) [
      | inl e ↦
          let gone : is_left (set left x false) q ≡ false = ap (λ r. get_or (set left x false) r false) e ∙ get_or-set_same left x false false below in
          ap (λ b. gives_it gives left k q && not b) (eq-eqb q x e) ∙ and-not (gives_it gives left k q) ∙ sym (and_left (is_left (set left x false) q) (stands k (row gives q)) gone)
      | inr ne ↦
          ap (λ b. gives_it gives left k q && not b) (ne_eqb q x ne) ∙ and-yes (gives_it gives left k q) ∙
          ap (λ b. b && stands k (row gives q)) (sym (get_or-set_other left x q false false ne))
    ]

pub others-left : (gives : List (List ℕ)) (count : ℕ) (left : List Bool) (k x : ℕ) → x < length left → others gives count left k x ≡ all_of gives count (set left x false) k
others-left gives count left k x below = how_many-agree (λ q. gives_it gives left k q && not (eqb q x)) (gives_it gives (set left x false) k) (upto count) (λ q there. without gives left k x q below)

passed-less : (itself : Bool) (given : List ℕ) (h g k : ℕ) → g ≤ h → is_passed itself given h k ≡ true → is_passed itself given g k ≡ true
passed-less itself given h g k less is =
    elim (or_cases (eqb h 0) (eqb h 1 && (not itself && stands k given)) is) [
      | inl none ↦ let z = eqb-true h 0 none in or_left (eqb g 0) (eqb g 1 && (not itself && stands k given)) (eq-eqb g 0 (omega (arith, z, less)))
      | inr one ↦
          let both = and_parts (eqb h 1) (not itself && stands k given) one in
          let z = eqb-true h 1 both.0 in
          elim (cases_eq g 0) [
            | inl none ↦ or_left (eqb g 0) (eqb g 1 && (not itself && stands k given)) (eq-eqb g 0 none)
            | inr some ↦
                or_right (eqb g 0) (eqb g 1 && (not itself && stands k given)) (and_from (eqb g 1) (not itself && stands k given) (eq-eqb g 1 (omega (arith, z, less, some))) both.1)
          ]
    ]

module _ (asks askers gives givers : List (List ℕ)) (count : ℕ) (s : Left) (x : ℕ) (h : Vec ℕ Global) (f : BTreeSet ℕ) (asking : AreBothWays count asks askers) (giving : AreBothWays count gives givers)
    (known : Knows asks gives count x s) (is : is_left s.left.items x ≡ true) (many : length h.items ≡ length s.held.items)
    (off : (k : ℕ) → get_or h.items k 0 + times k (row gives x) ≡ get_or s.held.items k 0) (offered : AreOffered s.free f h.items (row gives x) askers) where
  in_left : x < length s.left.items
  in_left = let b = left-below count s.left.items x known.many_left is in let m = known.many_left in omega (arith, b, m)

  held_now : (k : ℕ) → k < count → get_or h.items k 0 ≡ all_of gives count (set s.left.items x false) k
  held_now k below =
      let x_below = left-below count s.left.items x known.many_left is in
      let before = known.held k below ∙ with_itself gives count s.left.items k x x_below is in
      let counted = off k in
      let one = module-bit count gives givers k x giving x_below in
      let now : get_or h.items k 0 ≡ others gives count s.left.items k x = omega (arith, before, counted, one) in
      now ∙ others-left gives count s.left.items k x in_left

  fewer_held : (k : ℕ) → get_or h.items k 0 ≤ get_or s.held.items k 0
  fewer_held k = let e = off k in omega (arith, e)

  -- none but p gives what p asks for
  few_left : (p k : ℕ) → is_left (set s.left.items x false) p ≡ true → IsClear (waits_by asks gives s.itself) (set s.left.items x false) p → k < count → stands k (row asks p) ≡ true → get_or h.items k 0 ≤ 1
  few_left p k left' clear below asked =
      let now = set s.left.items x false in
      let long : length now ≡ count = length-set s.left.items x false ∙ known.many_left in
      let p_below = left-below count now p long left' in
      let split = with_itself gives count now k p p_below left' in
      let none : others gives count now k p ≡ 0 =
      how_many-zero (λ q. gives_it gives now k q && not (eqb q p)) (upto count)
      (λ q there.
      false_from_ne_true (gives_it gives now k q && not (eqb q p))
      (λ so.
      let two = and_parts (gives_it gives now k q) (not (eqb q p)) so in
      let both = and_parts (is_left now q) (stands k (row gives q)) two.0 in
      let met = met_by p k q asked both.1 in
      false≢true (sym (clear q both.0) ∙ and_from (meets asks gives p q) (s.itself || not (eqb q p)) met (or_right s.itself (not (eqb q p)) two.1)))) in
      let counted = held_now k below in
      let bits = at_most (stands k (row gives p)) in
      omega (arith, split, none, counted, bits)
    where
      at_most : (b : Bool) → bit b ≤ 1
      at_most true = omega arith
      at_most false = omega arith

      met_by : (p k q : ℕ) → stands k (row asks p) ≡ true → stands k (row gives q) ≡ true → meets asks gives p q ≡ true
      met_by p k q asked given =
          let at' = vertex_of (λ j. eqb j k) (row asks p) asked in
          let e = eqb-true (get_or (row asks p) at'.at' 0) k at'.passes in
          list_any_at (λ j. stands j (row gives q)) (row asks p) at'.at' 0 at'.below (ap (λ j. stands j (row gives q)) e ∙ given)

  freed : (p : ℕ) → is_left (set s.left.items x false) p ≡ true → IsClear (waits_by asks gives s.itself) (set s.left.items x false) p → contains nat_cmp f p ≡ true
  freed p left' clear =
      let other = left-other s.left.items x p in_left left' in
      elim (cases_Bool (waits_by asks gives s.itself p x)) [
        | inl waits ↦
            let both = and_parts (meets asks gives p x) (s.itself || not (eqb x p)) waits in
            let met = vertex_of (λ k. stands k (row gives x)) (row asks p) both.0 in
            let k = get_or (row asks p) met.at' 0 in
            let asked = list_any_at (λ j. eqb j k) (row asks p) met.at' 0 met.below (eq-eqb k k refl) in
            let below = module-below count asks askers k p asking asked in
            offered.offered k p met.passes (few_left p k left' clear below.0 asked) (asker-of count asks askers k p asking below.0 below.1 asked)
        | inr not' ↦
            offered.kept p
            (known.free p other.0 other.1
            (λ q is'.
            elim (cases_eq q x) [
              | inl e ↦ ap (waits_by asks gives s.itself p) e ∙ not'
              | inr ne ↦ clear q (get_or-set_other s.left.items x q false false ne ∙ is')
            ]))
      ]

  before_on : (p : ℕ) → p < s.first → is_left (set s.left.items x false) p ≡ false
  before_on p below =
      elim (cases_eq p x) [
        | inl e ↦ ap (λ r. get_or (set s.left.items x false) r false) e ∙ get_or-set_same s.left.items x false false in_left
        | inr ne ↦ get_or-set_other s.left.items x p false false ne ∙ known.before p below
      ]

  pub taken : Knows asks gives count count (record s { left = with_item s.left x false; held = h; free = f })
  taken = record {
    many_left = length-set s.left.items x false ∙ known.many_left;
    many_held = many ∙ known.many_held;
    many_passed = known.many_passed;
    held = held_now;
    within = known.within;
    passed = λ p i left' below.
        passed-less s.itself (row gives p) (get_or s.held.items (get_or (row asks p) i 0) 0) (get_or h.items (get_or (row asks p) i 0) 0) (get_or (row asks p) i 0)
        (fewer_held (get_or (row asks p) i 0)) (known.passed p i (left-other s.left.items x p in_left left').1 below);
    small = offered.small count known.small (λ k p asks'. vertex-below count asks askers k p asking asks');
    free = λ p ne left' clear. freed p left' clear;
    before = before_on;
  }

pub enough_held : (asks gives givers : List (List ℕ)) (count : ℕ) (s : Left) (x : ℕ) → AreBothWays count gives givers → Knows asks gives count x s → is_left s.left.items x ≡ true →
    (k : ℕ) → times k (row gives x) ≤ get_or s.held.items k 0
enough_held asks gives givers count s x giving known is k =
    let x_below = left-below count s.left.items x known.many_left is in
    let one = module-bit count gives givers k x giving x_below in
    elim (cases_Bool (stands k (row gives x))) [
      | inl there ↦
          let below = module-below count gives givers k x giving there in
          let before = known.held k below.0 ∙ with_itself gives count s.left.items k x x_below is in
          omega (arith, one, before)
      | inr not' ↦
          let none : bit (stands k (row gives x)) ≡ bit false = ap bit not' in
          omega (arith, one, none)
    ]

pub given_below : (count : ℕ) (gives givers : List (List ℕ)) (x : ℕ) → AreBothWays count gives givers → All (λ k. k < count) (row gives x)
given_below count gives givers x giving = all-from_stands count (row gives x) (λ k there. (module-below count gives givers k x giving there).0)

-- At the start

all-left : (count p : ℕ) → is_left (replicate count true) p ≡ true → p < count
all-left count p is = left-below count (replicate count true) p (length-replicate count true) is

start_held : (gives givers : List (List ℕ)) (count k : ℕ) → AreBothWays count gives givers → k < count → get_or (map length givers) k 0 ≡ all_of gives count (replicate count true) k
start_held gives givers count k giving below =
    let many = giving.many_vertices in
    let one : get_or (map length givers) k 0 ≡ length (row givers k) = get_or-map length givers k [] 0 (omega (arith, many, below)) in
    one ∙ ap length (giving.back k below) ∙ length-filtered (λ p. stands k (row gives p)) (upto count) ∙
    how_many-agree (λ p. stands k (row gives p)) (gives_it gives (replicate count true) k) (upto count)
    (λ p there. sym (ap (λ b. b && stands k (row gives p)) (get_or-replicate count p true false (below-upto count p there))))

pub at_start : (asks gives givers : List (List ℕ)) (count : ℕ) (s : Left) → AreBothWays count gives givers → s.left.items ≡ replicate count true → s.held.items ≡ map length givers → s.passed.items ≡ replicate count 0 →
    ((p : ℕ) → contains nat_cmp s.free p ≡ ltb p count) → s.first ≡ 0 → Knows asks gives count count s
at_start asks gives givers count s giving left' held passed free first =
    let many = giving.many_vertices in
    let is_in : (p : ℕ) → is_left s.left.items p ≡ true → p < count = λ p is. all-left count p (sym (ap (λ l. is_left l p) left') ∙ is) in
    let none : (p : ℕ) → p < count → get_or s.passed.items p 0 ≡ 0 = λ p below. ap (λ l. get_or l p 0) passed ∙ get_or-replicate count p 0 0 below in
    record {
      many_left = ap length left' ∙ length-replicate count true;
      many_held = ap length held ∙ length-map givers length ∙ many;
      many_passed = ap length passed ∙ length-replicate count 0;
      held = λ k below. ap (λ l. get_or l k 0) held ∙ start_held gives givers count k giving below ∙ ap (λ l. all_of gives count l k) (sym left');
      within = λ p below. let z = none p below in omega (arith, z);
      passed = λ p i is below. let z = none p (is_in p is) in absurd (omega (arith, z, below));
      small = λ p there. ltb-true p count (sym (free p) ∙ there);
      free = λ p ne is clear. free p ∙ lt-ltb p count (is_in p is);
      before = λ p below. absurd (omega (arith, below, first));
    }
