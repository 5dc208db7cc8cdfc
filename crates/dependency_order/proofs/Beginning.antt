-- An order, as it grows: what comes next, and what goes on behind it.
use Rattle.std.proofs.Common.{◌≡◌, ◌<◌, ◌+◌, ℕ, Bool, true, false, not, inl, inr, List, [], ◌∷◌, ◌++◌, length, eqb, if◌then◌else◌, get_or, set, sym, ap, ◌∙◌, refl, subst, arith, append_assoc, append-nil, get_or-set_same, get_or-set_other, replicate}
use Rattle.std.specs.List.{list_any}
use Rattle.std.proofs.lemmas.Bool.{cases_eq, cases_lt, eq-eqb, eqb-true, false≢true, false_from_ne_true, ne_eqb, not-true, or_cases, or_parts}
use Rattle.std.proofs.lemmas.List.{get_or-replicate, get_or_past, length-replicate}
use Rattle.std.proofs.lemmas.List.Folds.{list_any_at}
use Rattle.dependency_order.specs.Left.{IsBegun, IsClear, IsNextOf, is_left}
use Rattle.dependency_order.specs.Lists.{upto}
use Rattle.dependency_order.specs.Orders.{IsInOrder, IsNext, IsOrderOf, is_free, stands, times}
use Rattle.dependency_order.proofs.Counting.{times-past, times-push, times-upto}
use Rattle.dependency_order.proofs.Takings.{stands-times, times-stands}
use Rattle.dependency_order.proofs.Waiting.{vertex_of}

abbrev bit : Bool → ℕ
bit b = if b then 1 else 0

bit-true : (b : Bool) → 0 < bit b → b ≡ true
bit-true true more = refl
bit-true false more = absurd (omega (arith, more))

-- a list of those left
abbrev Lists_left : List Bool → List ℕ → Type 0
Lists_left left ps = (p : ℕ) → times p ps ≡ bit (is_left left p)

there-left : (left : List Bool) (ps : List ℕ) (p : ℕ) → Lists_left left ps → stands p ps ≡ true → is_left left p ≡ true
there-left left ps p all there = let some = stands-times p ps there in let e = all p in bit-true (is_left left p) (omega (arith, some, e))

left-there : (left : List Bool) (ps : List ℕ) (p : ℕ) → Lists_left left ps → is_left left p ≡ true → stands p ps ≡ true
left-there left ps p all is =
    let e = all p in
    let one : bit (is_left left p) ≡ bit true = ap bit is in
    times-stands p ps (omega (arith, e, one))

none-waits : (test : ℕ → Bool) (ps : List ℕ) (q : ℕ) → list_any test ps ≡ false → stands q ps ≡ true → test q ≡ false
none-waits test [] q none there = absurd (false≢true there)
none-waits test (p ∷ ps) q none there =
    let both = or_parts (test p) (list_any test ps) none in
    elim (or_cases (eqb p q) (stands q ps) there) [
      | inl e ↦ ap test (sym (eqb-true p q e)) ∙ both.0
      | inr on ↦ none-waits test ps q both.1 on
    ]

free-clear : (waits : ℕ → ℕ → Bool) (left : List Bool) (ps : List ℕ) (p : ℕ) → Lists_left left ps → is_free waits ps p ≡ true → IsClear waits left p
free-clear waits left ps p all free q is = none-waits (waits p) ps q (not-true (list_any (waits p) ps) free) (left-there left ps q all is)

clear-free : (waits : ℕ → ℕ → Bool) (left : List Bool) (ps : List ℕ) (p : ℕ) → Lists_left left ps → IsClear waits left p → is_free waits ps p ≡ true
clear-free waits left ps p all clear =
    ap not
    (false_from_ne_true (list_any (waits p) ps)
    (λ some.
    let at' = vertex_of (waits p) ps some in
    let q = get_or ps at'.at' 0 in
    let there = list_any_at (λ r. eqb r q) ps at'.at' 0 at'.below (eq-eqb q q refl) in
    false≢true (sym (clear q (there-left left ps q all there)) ∙ at'.passes)))

pub next_is : (waits : ℕ → ℕ → Bool) (left : List Bool) (ps : List ℕ) (p : ℕ) → Lists_left left ps → IsNextOf waits left p → IsNext waits ps p
next_is waits left ps p all next =
    elim next.is [
      | inl free ↦
          IsNext.free (clear-free waits left ps p all free.0)
          (λ q there is. free.1 q (there-left left ps q all there) (free-clear waits left ps q all is))
      | inr circled ↦
          IsNext.circled
          (λ q there. false_from_ne_true (is_free waits ps q) (λ is. circled.0 q (there-left left ps q all there) (free-clear waits left ps q all is)))
          (λ q there. circled.1 q (there-left left ps q all there))
    ]

-- One more

one_less : (left : List Bool) (x p : ℕ) → is_left left x ≡ true → bit (eqb x p) + bit (is_left (set left x false) p) ≡ bit (is_left left p)
one_less left x p is =
    elim (cases_eq p x) [
      | inl e ↦
          let gone : bit (is_left (set left x false) p) ≡ bit false = ap bit (ap (λ r. get_or (set left x false) r false) e ∙ get_or-set_same left x false false below) in
          let here : bit (eqb x p) ≡ bit true = ap bit (eq-eqb x p (sym e)) in
          let was : bit (is_left left p) ≡ bit true = ap bit (ap (is_left left) e ∙ is) in
          omega (arith, gone, here, was)
      | inr ne ↦
          let same : bit (is_left (set left x false) p) ≡ bit (is_left left p) = ap bit (get_or-set_other left x p false false ne) in
          let other : bit (eqb x p) ≡ bit false = ap bit (ne_eqb x p (λ e. ne (sym e))) in
          omega (arith, same, other)
    ]
  where
    below : x < length left
    below =
        elim (cases_lt x (length left)) [
          | inl low ↦ low
          | inr past ↦ absurd (false≢true (sym (get_or_past left x false past) ∙ is))
        ]

pub one_more_begun : (waits : ℕ → ℕ → Bool) (count : ℕ) (left : List Bool) (order : List ℕ) (x : ℕ) → IsBegun waits count left order → IsNextOf waits left x → IsBegun waits count (set left x false) (order ++ x ∷ [])
one_more_begun waits count left order x begun next = record {
  each = λ p.
      let before = begun.each p in
      let pushed = times-push p order x in
      let less = one_less left x p next.left' in
      omega (arith, before, pushed, less);
  goes_on = λ rest all in'.
      let whole : Lists_left left (x ∷ rest) = λ p. let less = one_less left x p next.left' in let e = all p in omega (arith, less, e) in
      let on = begun.goes_on (x ∷ rest) whole (next_is waits left (x ∷ rest) x whole next, in') in
      let In : List ℕ → Type 0 = λ ps. IsInOrder waits ps in
      subst In (sym (append_assoc order (x ∷ []) rest)) on;
}

-- The beginning and the end

pub none_begun : (waits : ℕ → ℕ → Bool) (count : ℕ) (left : List Bool) → left ≡ replicate count true → IsBegun waits count left []
none_begun waits count left all = record {
  each = λ p.
      elim (cases_lt p count) [
        | inl below ↦
            let one = times-upto count p below in
            let is : bit (is_left left p) ≡ bit true = ap bit (ap (λ l. is_left l p) all ∙ get_or-replicate count p true false below) in
            omega (arith, one, is)
        | inr past ↦
            let none = times-past count p past in
            let long = length-replicate count true in
            let is : bit (is_left left p) ≡ bit false = ap bit (ap (λ l. is_left l p) all ∙ get_or_past (replicate count true) p false (omega (arith, past, long))) in
            omega (arith, none, is)
      ];
  goes_on = λ rest whole in'. in';
}

pub all_begun : (waits : ℕ → ℕ → Bool) (count : ℕ) (left : List Bool) (order : List ℕ) → IsBegun waits count left order → ((p : ℕ) → is_left left p ≡ false) → IsOrderOf waits (upto count) order
all_begun waits count left order begun none = record {
  same = λ p.
      let e = begun.each p in
      let gone : bit (is_left left p) ≡ bit false = ap bit (none p) in
      omega (arith, e, gone);
  in_order =
      let In : List ℕ → Type 0 = λ ps. IsInOrder waits ps in
      subst In (append-nil order) (begun.goes_on [] (λ p. sym (ap bit (none p))) tt);
}
