-- Orders dealt out to groups.
use Rattle.std.proofs.Common.{◌≡◌, ◌<◌, ◌+◌, ℕ, Bool, true, false, cond, not, ◌||◌, inl, inr, List, [], ◌∷◌, ◌++◌, length, eqb, if◌then◌else◌, get_or, take, map, filter, sym, ap, ◌∙◌, refl, subst, arith, append_assoc, append-nil, length-append, length-take-le, add-zero}
use Rattle.std.specs.List.{enumerate_from, list_any, range_with_len}
use Rattle.std.proofs.lemmas.Bool.{eq-eqb, eqb-true, false≢true, ne_eqb, or_cases, or_left, or_right}
use Rattle.std.proofs.lemmas.List.{get_or_at, map-append, take_more}
use Rattle.std.proofs.lemmas.List.Elements.{filter-append}
use Rattle.dependency_order.specs.declared.group.Group.{Group}
use Rattle.dependency_order.specs.Dealt.{AreDealt, group_of, is_of, part_of}
use Rattle.dependency_order.specs.Groups.{leaders, members}
use Rattle.dependency_order.specs.Lists.{row, upto}
use Rattle.dependency_order.specs.Orders.{AreOrdered, IsInOrder, IsNext, IsOrderOf, IsOrdered, is_free, stands, times}
use Rattle.dependency_order.proofs.Counting.{times-filter}
use Rattle.dependency_order.proofs.Upto.{passes}

-- Dealing

-- First members

enumerated : (n : ℕ) (xs : List ℕ) (y : ℕ) → enumerate_from n (xs ++ y ∷ []) ≡ enumerate_from n xs ++ ((n + length xs, y) ∷ [])
enumerated n [] y = ap (λ k. (k, y) ∷ []) (sym (add-zero n))
enumerated n (x ∷ xs) y =
    let e : (n + 1) + length xs ≡ n + length (x ∷ xs) = omega arith in
    ap (λ es. (n, x) ∷ es) (enumerated (n + 1) xs y ∙ ap (λ k. enumerate_from (n + 1) xs ++ ((k, y) ∷ [])) e)

abbrev Pair : Type 0
Pair = ℕ × ℕ

one-leader : (b : Bool) (k y : ℕ) → map (λ (e : Pair). e.0) (cond b ((k, y) ∷ []) []) ≡ cond b (k ∷ []) []
one-leader true k y = refl
one-leader false k y = refl

pub leaders-more : (xs : List ℕ) (y : ℕ) → leaders (xs ++ y ∷ []) ≡ leaders xs ++ cond (eqb y (length xs)) (length xs ∷ []) []
leaders-more xs y =
    let test : Pair → Bool = λ e. eqb e.1 e.0 in
    let first : Pair → ℕ = λ e. e.0 in
    let zero' : 0 + length xs ≡ length xs = omega arith in
    ap (λ es. map first (filter test es)) (enumerated 0 xs y ∙ ap (λ k. enumerate_from 0 xs ++ ((k, y) ∷ [])) zero') ∙
    ap (map first) (filter-append test (enumerate_from 0 xs) ((length xs, y) ∷ [])) ∙
    map-append first (filter test (enumerate_from 0 xs)) (filter test ((length xs, y) ∷ [])) ∙
    ap (λ ls. leaders xs ++ ls) (one-leader (eqb y (length xs)) (length xs) y)

-- vertices that are chosen by their first members, as a filter of all vertices
placed-among : (test : ℕ → ℕ → Bool) (ys xs : List ℕ) → map (λ (e : Pair). e.0) (filter (λ (e : Pair). test e.0 e.1) (enumerate_from (length ys) xs)) ≡ filter (λ p. test p (get_or (ys ++ xs) p 0)) (range_with_len (length ys) (length xs))
placed-among test ys [] = refl
placed-among test ys (x ∷ xs) =
    let long : length (ys ++ x ∷ []) ≡ length ys + 1 = omega (arith, length-append ys (x ∷ [])) in
    let whole : ((ys ++ x ∷ []) ++ xs) ≡ ys ++ x ∷ xs = append_assoc ys (x ∷ []) xs in
    let rest = placed-among test (ys ++ x ∷ []) xs in
    let Is : ℕ → List ℕ → Type 0 = λ n all. map (λ (e : Pair). e.0) (filter (λ (e : Pair). test e.0 e.1) (enumerate_from n xs)) ≡ filter (λ p. test p (get_or all p 0)) (range_with_len n (length xs)) in
    let on = subst (Is (length ys + 1)) whole (subst (λ (n : ℕ). Is n ((ys ++ x ∷ []) ++ xs)) long rest) in
    let here : test (length ys) x ≡ test (length ys) (get_or (ys ++ x ∷ xs) (length ys) 0) = ap (test (length ys)) (sym (get_or_at ys x xs 0 (length ys) refl)) in
    kept (test (length ys) x) (test (length ys) (get_or (ys ++ x ∷ xs) (length ys) 0)) (length ys) x (filter (λ (e : Pair). test e.0 e.1) (enumerate_from (length ys + 1) xs)) (filter (λ p. test p (get_or (ys ++ x ∷ xs) p 0)) (range_with_len (length ys + 1) (length xs))) here on
  where
    kept : (b c : Bool) (n y : ℕ) (es : List Pair) (ps : List ℕ) → b ≡ c → map (λ (e : Pair). e.0) es ≡ ps → map (λ (e : Pair). e.0) (cond b ((n, y) ∷ es) es) ≡ cond c (n ∷ ps) ps
    kept true true n y es ps e is = ap (λ qs. n ∷ qs) is
    kept true false n y es ps e is = absurd (false≢true (sym e))
    kept false true n y es ps e is = absurd (false≢true e)
    kept false false n y es ps e is = is

pub members-upto : (xs : List ℕ) (f : ℕ) → members xs f ≡ filter (is_of xs f) (upto (length xs))
members-upto xs f = placed-among (λ p first. eqb first f) [] xs

pub leaders-upto : (xs : List ℕ) → leaders xs ≡ filter (λ p. eqb (get_or xs p 0) p) (upto (length xs))
leaders-upto xs = placed-among (λ p first. eqb first p) [] xs

-- Orders of a part

any-part : (test part : ℕ → Bool) (ps : List ℕ) → ((q : ℕ) → test q ≡ true → part q ≡ true) → list_any test (filter part ps) ≡ list_any test ps
any-part test part [] all = refl
any-part test part (p ∷ ps) all = step (test p) (part p) (λ e. all p e) refl (any-part test part ps all)
  where
    step : (t s : Bool) → (t ≡ true → s ≡ true) → test p ≡ t → list_any test (filter part ps) ≡ list_any test ps → list_any test (cond s (p ∷ filter part ps) (filter part ps)) ≡ (t || list_any test ps)
    step true true imp is rest = ap (λ b. b || list_any test (filter part ps)) is
    step true false imp is rest = absurd (false≢true (imp refl))
    step false true imp is rest = ap (λ b. b || list_any test (filter part ps)) is ∙ rest
    step false false imp is rest = rest

module _ (waits : ℕ → ℕ → Bool) (part : ℕ → Bool) (closed : (p q : ℕ) → waits p q ≡ true → part p ≡ part q) where
  free-part : (ps : List ℕ) (p : ℕ) → part p ≡ true → is_free waits (filter part ps) p ≡ is_free waits ps p
  free-part ps p is = ap not (any-part (waits p) part ps (λ q w. sym (closed p q w) ∙ is))

  next-part : (ps : List ℕ) (p : ℕ) → part p ≡ true → IsNext waits ps p → IsNext waits (filter part ps) p
  next-part ps p is (IsNext.free free least) =
      IsNext.free (free-part ps p is ∙ free)
      (λ q there so. let both = passes part q ps there in least q both.1 (sym (free-part ps q both.0) ∙ so))
  next-part ps p is (IsNext.circled none least) =
      IsNext.circled (λ q there. let both = passes part q ps there in free-part ps q both.0 ∙ none q both.1)
      (λ q there. least q (passes part q ps there).1)

  order-step : (b : Bool) (p : ℕ) (ps : List ℕ) → part p ≡ b → IsNext waits (p ∷ ps) p → IsInOrder waits (filter part ps) → IsInOrder waits (cond b (p ∷ filter part ps) (filter part ps))
  order-step true p ps is next rest =
      let N : List ℕ → Type 0 = λ qs. IsNext waits qs p in
      (subst N (ap (λ b. cond b (p ∷ filter part ps) (filter part ps)) is) (next-part (p ∷ ps) p is next), rest)
  order-step false p ps is next rest = rest

  pub order-part : (ps : List ℕ) → IsInOrder waits ps → IsInOrder waits (filter part ps)
  order-part [] in' = in'
  order-part (p ∷ ps) in' = order-step (part p) p ps refl in'.0 (order-part ps in'.1)

-- an order of all vertices gives one of each group
pub order_of_part : (waits : ℕ → ℕ → Bool) (firsts order : List ℕ) (f : ℕ) → ((p q : ℕ) → waits p q ≡ true → is_of firsts f p ≡ is_of firsts f q) → IsOrderOf waits (upto (length firsts)) order →
    IsOrderOf waits (members firsts f) (filter (is_of firsts f) order)
order_of_part waits firsts order f closed is = record {
  same = λ p.
      times-filter (is_of firsts f) p order ∙ ap (λ n. if is_of firsts f p then n else 0) (is.same p) ∙
      sym (times-filter (is_of firsts f) p (upto (length firsts))) ∙ ap (times p) (sym (members-upto firsts f));
  in_order = order-part waits (is_of firsts f) closed order is.in_order;
}

pub all_ordered : (names : ℕ → ℕ → Bool) (group : ℕ → List ℕ) (of : ℕ → Group) (ls : List ℕ) → ((f : ℕ) → stands f ls ≡ true → IsOrdered names (group f) (of f)) → AreOrdered names (map group ls) (map of ls)
all_ordered names group of [] each = tt
all_ordered names group of (f ∷ fs) each =
    (each f (or_left (eqb f f) (stands f fs) (eq-eqb f f refl)), all_ordered names group of fs (λ g there. each g (or_right (eqb f g) (stands g fs) there)))

-- a first member is a vertex
leader-step : (b : Bool) (n x f m : ℕ) (es : List Pair) → (stands f (map (λ (e : Pair). e.0) es) ≡ true → f < m) → n < m → stands f (map (λ (e : Pair). e.0) (cond b ((n, x) ∷ es) es)) ≡ true → f < m
leader-step true n x f m es rest low there =
    elim (or_cases (eqb n f) (stands f (map (λ (e : Pair). e.0) es)) there) [
      | inl e ↦ let same = eqb-true n f e in omega (arith, same, low)
      | inr on ↦ rest on
    ]
leader-step false n x f m es rest low there = rest there

leader-from : (n : ℕ) (xs : List ℕ) (f : ℕ) → stands f (map (λ (e : Pair). e.0) (filter (λ (e : Pair). eqb e.1 e.0) (enumerate_from n xs))) ≡ true → f < n + length xs
leader-from n [] f there = absurd (false≢true there)
leader-from n (x ∷ xs) f there =
    leader-step (eqb x n) n x f (n + length (x ∷ xs)) (filter (λ (e : Pair). eqb e.1 e.0) (enumerate_from (n + 1) xs))
    (λ on. let b = leader-from (n + 1) xs f on in omega (arith, b)) (omega arith) there

pub leader-below : (xs : List ℕ) (f : ℕ) → stands f (leaders xs) ≡ true → f < length xs
leader-below xs f there = let b = leader-from 0 xs f there in omega (arith, b)

-- Groups of what was dealt

map-agree : (f g : ℕ → Group) (ls : List ℕ) → ((l : ℕ) → stands l ls ≡ true → f l ≡ g l) → map f ls ≡ map g ls
map-agree f g [] same = refl
map-agree f g (l ∷ ls) same =
    ap (λ x. x ∷ map f ls) (same l (or_left (eqb l l) (stands l ls) (eq-eqb l l refl))) ∙
    ap (λ xs. g l ∷ xs) (map-agree f g ls (λ k there. same k (or_right (eqb l k) (stands k ls) there)))

pub parts-same : (firsts one another : List ℕ) (l1 l2 : List (List ℕ)) → AreDealt firsts one l1 → AreDealt firsts another l2 → map (group_of l1 l2) (leaders firsts) ≡ map (part_of firsts one another) (leaders firsts)
parts-same firsts one another l1 l2 d e =
    map-agree (group_of l1 l2) (part_of firsts one another) (leaders firsts)
    (λ f there.
    let below = leader-below firsts f there in
    ap (λ xs. record { dependencies_first = xs; dependants_first = row l2 f }) (d.rows f below) ∙
    ap (λ xs. record { dependencies_first = filter (is_of firsts f) one; dependants_first = xs }) (e.rows f below))

pub leaders-pushed : (firsts : List ℕ) (i : ℕ) (g : ℕ → Group) (before after : List Group) → i < length firsts → before ≡ map g (leaders (take i firsts)) → get_or firsts i 0 ≡ i → after ≡ before ++ g i ∷ [] →
    after ≡ map g (leaders (take (i + 1) firsts))
leaders-pushed firsts i g before after below is leads pushed =
    let long : length (take i firsts) ≡ i = length-take-le i firsts (omega (arith, below)) in
    let more = ap leaders (take_more firsts i 0 below) ∙ leaders-more (take i firsts) (get_or firsts i 0) in
    let test : eqb (get_or firsts i 0) (length (take i firsts)) ≡ true = eq-eqb (get_or firsts i 0) (length (take i firsts)) (leads ∙ sym long) in
    let one = ap (λ b. cond b (length (take i firsts) ∷ []) []) test ∙ ap (λ n. n ∷ []) long in
    pushed ∙ ap (λ gs. gs ++ g i ∷ []) is ∙ sym (map-append g (leaders (take i firsts)) (i ∷ [])) ∙ ap (λ ls. map g (leaders (take i firsts) ++ ls)) (sym one) ∙ ap (map g) (sym more)

pub leaders-left : (firsts : List ℕ) (i : ℕ) (g : ℕ → Group) (before : List Group) → i < length firsts → before ≡ map g (leaders (take i firsts)) → (get_or firsts i 0 ≡ i → ⊥) →
    before ≡ map g (leaders (take (i + 1) firsts))
leaders-left firsts i g before below is leads =
    let long : length (take i firsts) ≡ i = length-take-le i firsts (omega (arith, below)) in
    let more = ap leaders (take_more firsts i 0 below) ∙ leaders-more (take i firsts) (get_or firsts i 0) in
    let test : eqb (get_or firsts i 0) (length (take i firsts)) ≡ false = ne_eqb (get_or firsts i 0) (length (take i firsts)) (λ e. leads (e ∙ long)) in
    let none = ap (λ b. cond b (length (take i firsts) ∷ []) []) test in
    is ∙ ap (map g) (sym (append-nil (leaders (take i firsts)))) ∙ ap (λ ls. map g (leaders (take i firsts) ++ ls)) (sym none) ∙ ap (map g) (sym more)
