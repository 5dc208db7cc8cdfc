-- What is entered in lists by number.
use Rattle.std.proofs.Common.{◌≡◌, ◌<◌, ◌+◌, ◌-◌, ℕ, zero, suc, Bool, true, false, cond, ◌||◌, inl, inr, List, [], ◌∷◌, ◌++◌, length, eqb, if◌then◌else◌, Option, Some, slice_get, set, get_or, sym, ap, ◌∙◌, refl, subst, arith, append-nil, filter, All, length-append, length-set, get_or-set_same, get_or-set_other}
use Rattle.std.specs.Option.{option_map_or}
use Rattle.std.proofs.lemmas.Bool.{cases_eq, cases_lt, eq-eqb, false≢true, ne_eqb, or_left, or_right}
use Rattle.std.proofs.lemmas.List.{get_or_past}
use Rattle.std.proofs.lemmas.List.Elements.{All-nil}
use Rattle.dependency_order.specs.Lists.{AreBelow, AreEntered, IsEntered, IsRelation, ends_with, is_named, is_on, row, upto}
use Rattle.dependency_order.specs.declared.vertex.Vertex.{Vertex}
use Rattle.dependency_order.specs.Orders.{stands}
use Rattle.dependency_order.proofs.Upto.{below-filtered, below-upto, filter-more, stands-filtered}

or-false : (b : Bool) → (b || false) ≡ b
or-false true = refl
or-false false = refl

pub stands-one : (k x : ℕ) → stands k (x ∷ []) ≡ eqb x k
stands-one k x = or-false (eqb x k)

or-assoc : (a b c : Bool) → (a || (b || c)) ≡ ((a || b) || c)
or-assoc true b c = refl
or-assoc false b c = refl

pub stands-more : (k : ℕ) (xs : List ℕ) (x : ℕ) → stands k (xs ++ x ∷ []) ≡ (stands k xs || eqb x k)
stands-more k [] x = or-false (eqb x k)
stands-more k (y ∷ ys) x = ap (λ b. eqb y k || b) (stands-more k ys x) ∙ or-assoc (eqb y k) (stands k ys) (eqb x k)

-- The last item

last-of : (xs : List ℕ) (p : ℕ) → slice_get (xs ++ p ∷ []) (length xs) ≡ Some p
last-of [] p = refl
last-of (x ∷ xs) p = last-of xs p

ends-pushed : (xs : List ℕ) (p : ℕ) → ends_with (xs ++ p ∷ []) p ≡ true
ends-pushed xs p =
    let many : length (xs ++ p ∷ []) - 1 ≡ length xs = omega (arith, length-append xs (p ∷ [])) in
    let last : slice_get (xs ++ p ∷ []) (length (xs ++ p ∷ []) - 1) ≡ Some p = ap (slice_get (xs ++ p ∷ [])) many ∙ last-of xs p in
    ap (λ o. option_map_or (λ q. eqb q p) o false) last ∙ eq-eqb p p refl

pub got : {X : Type 0} (xs : List X) (i : ℕ) (d : X) → i < length xs → slice_get xs i ≡ Some (get_or xs i d)
got [] i d below = absurd (omega (arith, below))
got (x ∷ xs) zero d below = refl
got (x ∷ xs) (suc i) d below = got xs i d (omega (arith, below))

pub got_read : {X : Type 0} (xs : List X) (i : ℕ) (x : X) → i < length xs → x ≡ get_or xs i x → slice_get xs i ≡ Some x
got_read {X} xs i x below is = let some : X → Option X = λ y. Some y in got xs i x below ∙ ap some (sym is)

ends-below : (xs : List ℕ) (p : ℕ) → All (λ q. q < p) xs → ends_with xs p ≡ false
ends-below [] p below = refl
ends-below (x ∷ xs) p below =
    let i = length (x ∷ xs) - 1 in
    let in' : i < length (x ∷ xs) = omega arith in
    let low : get_or (x ∷ xs) i 0 < p = below i 0 in' in
    ap (λ o. option_map_or (λ q. eqb q p) o false) (got (x ∷ xs) i 0 in') ∙ ne_eqb (get_or (x ∷ xs) i 0) p (λ e. omega (arith, e, low))

-- One number after the other

row_same : (lists : List (List ℕ)) (k : ℕ) (xs : List ℕ) → k < length lists → row (set lists k xs) k ≡ xs
row_same lists k xs below = get_or-set_same lists k xs [] below

row_other : (lists : List (List ℕ)) (j k : ℕ) (xs : List ℕ) → (k ≡ j → ⊥) → row (set lists j xs) k ≡ row lists k
row_other lists j k xs ne = get_or-set_other lists j k xs [] ne

-- at the number itself, by whether it was entered before
pushed_here : (t : Bool) (old now : List ℕ) (item : ℕ) → now ≡ old ++ (if t then item ∷ [] else []) → ends_with now item ≡ false → now ++ item ∷ [] ≡ old ++ item ∷ []
pushed_here true old now item is ends = absurd (false≢true (sym ends ∙ ap (λ xs. ends_with xs item) is ∙ ends-pushed old item))
pushed_here false old now item is ends = ap (λ xs. xs ++ item ∷ []) (is ∙ append-nil old)

left_here : (t : Bool) (old now : List ℕ) (item : ℕ) → All (λ q. q < item) old → now ≡ old ++ (if t then item ∷ [] else []) → ends_with now item ≡ true → now ≡ old ++ item ∷ []
left_here true old now item below is ends = is
left_here false old now item below is ends =
    absurd (false≢true (sym (ap (λ xs. ends_with xs item) (is ∙ append-nil old) ∙ ends-below old item below) ∙ ends))

yes : (b : Bool) (x : ℕ) (xs : List ℕ) → b ≡ true → xs ++ (x ∷ []) ≡ xs ++ (if b then x ∷ [] else [])
yes true x xs is = refl
yes false x xs is = absurd (false≢true is)

same_cell : (b c : Bool) (x : ℕ) (xs : List ℕ) → b ≡ c → xs ++ (if b then x ∷ [] else []) ≡ xs ++ (if c then x ∷ [] else [])
same_cell b c x xs e = ap (λ d. xs ++ (if d then x ∷ [] else [])) e

elsewhere : (k x : ℕ) (xs : List ℕ) → (k ≡ x → ⊥) → stands k xs ≡ stands k (xs ++ x ∷ [])
elsewhere k x xs ne =
    sym (stands-more k xs x ∙ ap (λ b. stands k xs || b) (ne_eqb x k (λ e. ne (sym e))) ∙ or-false (stands k xs))

here : (x : ℕ) (xs : List ℕ) → stands x (xs ++ x ∷ []) ≡ true
here x xs = stands-more x xs x ∙ or_right (stands x xs) (eqb x x) (eq-eqb x x refl)

pub enter_pushed : (old now : List (List ℕ)) (xs : List ℕ) (x item : ℕ) → x < length old → IsEntered old now xs item → ends_with (row now x) item ≡ false →
    IsEntered old (set now x (row now x ++ item ∷ [])) (xs ++ x ∷ []) item
enter_pushed old now xs x item below is ends = record {
  many = length-set now x (row now x ++ item ∷ []) ∙ is.many;
  rows = λ k in'.
      elim (cases_eq k x) [
        | inl e ↦
            let many = is.many in
            let Is : ℕ → Type 0 = λ j. row (set now x (row now x ++ item ∷ [])) j ≡ row old j ++ (if stands j (xs ++ x ∷ []) then item ∷ [] else []) in
            subst Is (sym e)
            (row_same now x (row now x ++ item ∷ []) (omega (arith, below, many)) ∙ pushed_here (stands x xs) (row old x) (row now x) item (is.rows x below) ends ∙
            yes (stands x (xs ++ x ∷ [])) item (row old x) (here x xs))
        | inr ne ↦
            row_other now x k (row now x ++ item ∷ []) ne ∙ is.rows k in' ∙ same_cell (stands k xs) (stands k (xs ++ x ∷ [])) item (row old k) (elsewhere k x xs ne)
      ];
}

pub enter_left : (old now : List (List ℕ)) (xs : List ℕ) (x item : ℕ) → x < length old → AreBelow item old → IsEntered old now xs item → ends_with (row now x) item ≡ true →
    IsEntered old now (xs ++ x ∷ []) item
enter_left old now xs x item below fresh is ends = record {
  many = is.many;
  rows = λ k in'.
      elim (cases_eq k x) [
        | inl e ↦
            let Is : ℕ → Type 0 = λ j. row now j ≡ row old j ++ (if stands j (xs ++ x ∷ []) then item ∷ [] else []) in
            subst Is (sym e)
            (left_here (stands x xs) (row old x) (row now x) item (fresh x) (is.rows x below) ends ∙ yes (stands x (xs ++ x ∷ [])) item (row old x) (here x xs))
        | inr ne ↦ is.rows k in' ∙ same_cell (stands k xs) (stands k (xs ++ x ∷ [])) item (row old k) (elsewhere k x xs ne)
      ];
}

-- One item after the other

pub entered_more : (has : ℕ → ℕ → Bool) (count i : ℕ) (old new : List (List ℕ)) (xs : List ℕ) → AreEntered has count i old → IsEntered old new xs i →
    ((k : ℕ) → k < count → stands k xs ≡ has i k) → AreEntered has count (i + 1) new
entered_more has count i old new xs are is agree = record {
  many = is.many ∙ are.many;
  rows = λ k in'.
      let many = are.many in
      is.rows k (omega (arith, in', many)) ∙ ap (λ ys. ys ++ (if stands k xs then i ∷ [] else [])) (are.rows k in') ∙
      same_cell (stands k xs) (has i k) i (filter (λ p. has p k) (upto i)) (agree k in') ∙ sym (filter-more (λ p. has p k) i);
}

pub entered_below : (has : ℕ → ℕ → Bool) (count i : ℕ) (lists : List (List ℕ)) → AreEntered has count i lists → AreBelow i lists
entered_below has count i lists are k =
    elim (cases_lt k count) [
      | inl in' ↦
          let Small : List ℕ → Type 0 = λ xs. All (λ p. p < i) xs in
          subst Small (sym (are.rows k in')) (below-filtered (λ p. has p k) i)
      | inr past ↦
          let Small : List ℕ → Type 0 = λ xs. All (λ p. p < i) xs in
          let many = are.many in
          subst Small (sym (get_or_past lists k [] (omega (arith, past, many)))) (All-nil (λ p. p < i))
    ]

-- The other way round

pub filter-agree : (f g : ℕ → Bool) (xs : List ℕ) → ((p : ℕ) → stands p xs ≡ true → f p ≡ g p) → filter f xs ≡ filter g xs
filter-agree f g [] agree = refl
filter-agree f g (x ∷ xs) agree =
    let rest = filter-agree f g xs (λ p there. agree p (or_right (eqb x p) (stands p xs) there)) in
    let one = agree x (or_left (eqb x x) (stands x xs) (eq-eqb x x refl)) in
    ap (λ ys. cond (f x) (x ∷ ys) ys) rest ∙ ap (λ b. cond b (x ∷ filter g xs) (filter g xs)) one

pub relation_of : (has : ℕ → ℕ → Bool) (count : ℕ) (vertices modules : List (List ℕ)) → AreEntered has count count vertices →
    AreEntered (λ p k. stands k (row vertices p)) (length vertices) (length vertices) modules → IsRelation has count modules vertices
relation_of has count vertices modules are back =
    let many = are.many in
    record {
      of_modules = are;
      of_vertices = record {
        many = back.many ∙ many;
        rows = λ p in'.
            back.rows p (omega (arith, in', many)) ∙ ap (λ n. filter (λ k. stands p (row vertices k)) (upto n)) many ∙
            filter-agree (λ k. stands p (row vertices k)) (λ k. has p k) (upto count)
            (λ k there. ap (stands p) (are.rows k (below-upto count k there)) ∙ stands-filtered (λ q. has q k) count p in');
      };
    }

pub named_here : (vertices : List Vertex) (i : ℕ) (vertex : Vertex) (items : List ℕ) (k : ℕ) → i < length vertices → vertex ≡ get_or vertices i vertex → items ≡ vertex.dependencies → stands k items ≡ is_named vertices i k
named_here vertices i vertex items k below is same =
    let at' = ap (λ o. option_map_or (λ (p : Vertex). stands k p.dependencies) o false) (got_read vertices i vertex below is) in
    ap (stands k) same ∙ sym at'

pub on_here : (vertices : List Vertex) (i : ℕ) (vertex : Vertex) (k : ℕ) → i < length vertices → vertex ≡ get_or vertices i vertex → stands k (vertex.module ∷ []) ≡ is_on vertices i k
on_here vertices i vertex k below is =
    let at' = ap (λ o. option_map_or (λ (p : Vertex). eqb p.module k) o false) (got_read vertices i vertex below is) in
    stands-one k vertex.module ∙ sym at'
