-- Names that rise: what is among them, one more at its index, and that no others with the same among them rise.
use Rattle.std.proofs.Common.{◌≡◌, ◌+◌, ◌≤◌, ℕ, zero, suc, Bool, true, false, not, cond, List, [], ◌∷◌, insert, length, ltb, Option, None, Some, refl, sym, ap, subst, ◌∙◌, arith}
use Rattle.std.specs.Prelude.{◌||◌, position}
use Rattle.std.specs.Cmp.{Equal-is}
use Rattle.std.specs.Cmp.Lexicographic.{nat_list_eq_equiv, slice_cmp, texts_ties}
use Rattle.std.specs.List.{AllByRecursion, filter, position_or_len}
use Rattle.std.specs.Ordering.{is_lt, nat_cmp, ordering_reverse}
use Rattle.std.specs.Str.{bytes_eq}
use Rattle.std.specs.declared.cmp.Ordering.{Ordering}
use Rattle.std.specs.declared.cmp.Ordering.TheVariants.{Less, Equal, Greater}
use Rattle.std.proofs.lemmas.Bool.{ltb-false, or_parts, true≢false}
use Rattle.std.proofs.lemmas.Cmp.{nat_list_cmp_total, tied_itself}
use Rattle.std.proofs.lemmas.Option.{none-some}
use Rattle.std.proofs.lemmas.Slice.Eq.{bytes_eq-Decides}
use Rattle.unpurged_code.specs.Names.{ByName, is_among, index_among, stands_before, with_name}

-- The order of names.

is_less : (r : Ordering) → is_lt r ≡ true → r ≡ Less
is_less Less is = refl
is_less Equal is = absurd (true≢false (sym is))
is_less Greater is = absurd (true≢false (sym is))

later : (a b c : List ℕ) → stands_before a b ≡ true → stands_before b c ≡ true → stands_before a c ≡ true
later a b c first second =
    ap is_lt (nat_list_cmp_total.trans a b c (is_less (slice_cmp nat_cmp a b) first) (is_less (slice_cmp nat_cmp b c) second))

never_itself : (a : List ℕ) → stands_before a a ≡ true → ⊥
never_itself a is = true≢false (sym is ∙ ap is_lt (tied_itself nat_list_cmp_total a))

same_name : (a b : List ℕ) → bytes_eq a b ≡ true → a ≡ b
same_name a b = (bytes_eq-Decides a b).0

itself : (a : List ℕ) → bytes_eq a a ≡ true
itself a = nat_list_eq_equiv.refl a

tied : (a b : List ℕ) → slice_cmp nat_cmp a b ≡ Equal → bytes_eq a b ≡ true
tied a b is = texts_ties a b ∙ (Equal-is (slice_cmp nat_cmp a b)).1 is

other_way_by : (a b : List ℕ) (r : Ordering) → slice_cmp nat_cmp a b ≡ r → is_lt r ≡ false → bytes_eq a b ≡ false → stands_before b a ≡ true
other_way_by a b Less is not_less differ = absurd (true≢false not_less)
other_way_by a b Equal is not_less differ = absurd (true≢false (sym (tied a b is) ∙ differ))
other_way_by a b Greater is not_less differ = ap is_lt (nat_list_cmp_total.antisymm b a ∙ ap ordering_reverse is)

other_way : (a b : List ℕ) → stands_before a b ≡ false → bytes_eq a b ≡ false → stands_before b a ≡ true
other_way a b = other_way_by a b (slice_cmp nat_cmp a b) refl

-- What is among names that stand behind one.

among_behind : (n k : List ℕ) (names : List (List ℕ)) → AllByRecursion (λ m. stands_before n m ≡ true) names → is_among k names ≡ true → stands_before n k ≡ true
among_behind n k [] behind is = absurd (true≢false (sym is))
among_behind n k (m ∷ names) behind is =
    elim (bytes_eq k m) as (λ b. bytes_eq k m ≡ b → (b || is_among k names) ≡ true → stands_before n k ≡ true) [
      | true ↦ λ same is. subst (λ x. stands_before n x ≡ true) (sym (same_name k m same)) behind.0
      | false ↦ λ same is. among_behind n k names behind.1 is
    ] refl is

-- One more at its index.

or_swap : (a b c : Bool) → (a || (b || c)) ≡ (b || (a || c))
or_swap true true c = refl
or_swap true false c = refl
or_swap false true c = refl
or_swap false false c = refl

among_insert : (k m : List ℕ) (names : List (List ℕ)) (index : ℕ) → is_among k (insert names index m) ≡ (bytes_eq k m || is_among k names)
among_insert k m names zero = refl
among_insert k m [] (suc index) = refl
among_insert k m (n ∷ names) (suc index) =
    ap (λ b. bytes_eq k n || b) (among_insert k m names index) ∙ or_swap (bytes_eq k n) (bytes_eq k m) (is_among k names)

all_insert : (P : List ℕ → Type 0) (names : List (List ℕ)) (index : ℕ) (m : List ℕ) → AllByRecursion P names → P m → AllByRecursion P (insert names index m)
all_insert P names zero m all one = (one, all)
all_insert P [] (suc index) m all one = (one, tt)
all_insert P (n ∷ names) (suc index) m all one = (all.0, all_insert P names index m all.1 one)

all_later : (m n : List ℕ) (names : List (List ℕ)) → stands_before m n ≡ true → AllByRecursion (λ k. stands_before n k ≡ true) names → AllByRecursion (λ k. stands_before m k ≡ true) names
all_later m n [] before all = tt
all_later m n (k ∷ names) before all = (later m n k before all.0, all_later m n names before all.1)

differ_back : (a b : List ℕ) → bytes_eq a b ≡ false → bytes_eq b a ≡ false
differ_back a b differ = nat_list_eq_equiv.symm b a ∙ differ

rises_at : (m n : List ℕ) (names : List (List ℕ)) (b : Bool) → stands_before m n ≡ b → ByName (n ∷ names) → bytes_eq m n ≡ false → ByName (insert names (index_among m names) m) → ByName (insert (n ∷ names) (cond (not b) (1 + index_among m names) 0) m)
rises_at m n names true before rises differ others = ((before, all_later m n names before rises.0), rises)
rises_at m n names false before rises differ others =
    let next : suc (index_among m names) ≡ 1 + index_among m names = omega arith in
    let behind = all_insert (λ k. stands_before n k ≡ true) names (index_among m names) m rises.0 (other_way m n before differ) in
    subst (λ index. ByName (insert (n ∷ names) index m)) next (behind, others)

rises_insert : (m : List ℕ) (names : List (List ℕ)) → ByName names → is_among m names ≡ false → ByName (insert names (index_among m names) m)
rises_insert m [] rises new = (tt, tt)
rises_insert m (n ∷ names) rises new =
    let differ = or_parts (bytes_eq m n) (is_among m names) new in
    rises_at m n names (stands_before m n) refl rises differ.0 (rises_insert m names rises.1 differ.1)

rises_by : (m : List ℕ) (names : List (List ℕ)) (b : Bool) → is_among m names ≡ b → ByName names → ByName (cond b names (insert names (index_among m names) m))
rises_by m names true is rises = rises
rises_by m names false is rises = rises_insert m names rises is

pub rises_with : (m : List ℕ) (names : List (List ℕ)) → ByName names → ByName (with_name m names)
rises_with m names = rises_by m names (is_among m names) refl

there : (k m : List ℕ) (names : List (List ℕ)) (b : Bool) → bytes_eq k m ≡ b → is_among m names ≡ true → is_among k names ≡ (b || is_among k names)
there k m names true same is = subst (λ n. is_among n names ≡ true) (sym (same_name k m same)) is
there k m names false same is = refl

among_by : (k m : List ℕ) (names : List (List ℕ)) (b : Bool) → is_among m names ≡ b → is_among k (cond b names (insert names (index_among m names) m)) ≡ (bytes_eq k m || is_among k names)
among_by k m names true is = there k m names (bytes_eq k m) refl is
among_by k m names false is = among_insert k m names (index_among m names)

pub among_with : (k m : List ℕ) (names : List (List ℕ)) → is_among k (with_name m names) ≡ (bytes_eq k m || is_among k names)
among_with k m names = among_by k m names (is_among m names) refl

-- Some of them.

all_filter : (P : List ℕ → Type 0) (test : List ℕ → Bool) (names : List (List ℕ)) → AllByRecursion P names → AllByRecursion P (filter test names)
all_filter P test [] all = tt
all_filter P test (n ∷ names) all =
    elim (test n) as (λ b. AllByRecursion P (cond b (n ∷ filter test names) (filter test names))) [
      | true ↦ (all.0, all_filter P test names all.1)
      | false ↦ all_filter P test names all.1
    ]

pub rises_filter : (test : List ℕ → Bool) (names : List (List ℕ)) → ByName names → ByName (filter test names)
rises_filter test [] rises = tt
rises_filter test (n ∷ names) rises =
    elim (test n) as (λ b. ByName (cond b (n ∷ filter test names) (filter test names))) [
      | true ↦ (all_filter (λ k. stands_before n k ≡ true) test names rises.0, rises_filter test names rises.1)
      | false ↦ rises_filter test names rises.1
    ]

-- There are no others with the same among them.

pub both_true : (a b : Bool) → (a ≡ true → b ≡ true) → (b ≡ true → a ≡ true) → a ≡ b
both_true true b to from = sym (to refl)
both_true false true to from = from refl
both_true false false to from = refl

not_among : (n : List ℕ) (names : List (List ℕ)) (b : Bool) → is_among n names ≡ b → AllByRecursion (λ m. stands_before n m ≡ true) names → is_among n names ≡ false
not_among n names true is behind = absurd (never_itself n (among_behind n n names behind is))
not_among n names false is behind = is

first_same : (x y : List ℕ) (xs ys : List (List ℕ)) (b : Bool) → bytes_eq x y ≡ b → ByName (x ∷ xs) → ByName (y ∷ ys) → ((k : List ℕ) → is_among k (x ∷ xs) ≡ is_among k (y ∷ ys)) → x ≡ y
first_same x y xs ys true is one other same = same_name x y is
first_same x y xs ys false is one other same =
    let x_there : is_among x ys ≡ true =
    ap (λ b. b || is_among x ys) (sym is) ∙ sym (same x) ∙ ap (λ b. b || is_among x xs) (itself x) in
    let y_there : is_among y xs ≡ true =
    ap (λ b. b || is_among y xs) (sym (differ_back x y is)) ∙ same y ∙ ap (λ b. b || is_among y ys) (itself y) in
    absurd (never_itself x (later x y x (among_behind x y xs one.0 y_there) (among_behind y x ys other.0 x_there)))

others_by : (n k : List ℕ) (xs ys : List (List ℕ)) (b : Bool) → bytes_eq k n ≡ b → is_among n xs ≡ false → is_among n ys ≡ false → (b || is_among k xs) ≡ (b || is_among k ys) → is_among k xs ≡ is_among k ys
others_by n k xs ys true is one other same =
    subst (λ m. is_among m xs ≡ is_among m ys) (sym (same_name k n is)) (one ∙ sym other)
others_by n k xs ys false is one other same = same

pub one_rising : (xs ys : List (List ℕ)) → ByName xs → ByName ys → ((k : List ℕ) → is_among k xs ≡ is_among k ys) → xs ≡ ys
one_rising [] [] one other same = refl
one_rising [] (y ∷ ys) one other same =
    absurd (true≢false (sym (ap (λ b. b || is_among y ys) (itself y)) ∙ sym (same y)))
one_rising (x ∷ xs) [] one other same =
    absurd (true≢false (sym (ap (λ b. b || is_among x xs) (itself x)) ∙ same x))
one_rising (x ∷ xs) (y ∷ ys) one other same =
    let first = first_same x y xs ys (bytes_eq x y) refl one other same in
    let behind = subst (λ n. AllByRecursion (λ m. stands_before n m ≡ true) ys) (sym first) other.0 in
    let x_gone = not_among x xs (is_among x xs) refl one.0 in
    let x_gone_too = not_among x ys (is_among x ys) refl behind in
    let others = one_rising xs ys one.1 other.1 (λ k. others_by x k xs ys (bytes_eq k x) refl x_gone x_gone_too
    (same k ∙ ap (λ n. bytes_eq k n || is_among k ys) (sym first))) in
    λ j. first j ∷ others j

-- The index that a look gives.

fits : (test : List ℕ → Bool) (names : List (List ℕ)) → position_or_len test names ≤ length names
fits test [] = omega arith
fits test (n ∷ names) =
    elim (test n) as (λ b. cond (not b) (1 + position_or_len test names) 0 ≤ suc (length names)) [
      | true ↦ omega arith
      | false ↦ omega (arith, fits test names)
    ]

found_by : (n count : ℕ) (o : Option ℕ) (b : Bool) → ltb n count ≡ b → n ≤ count → cond b (Some n) None ≡ o → o ≡ None → count ≡ n
found_by n count o true less upto is none = absurd (none-some n (sym none ∙ sym is))
found_by n count o false less upto is none = let over : count ≤ n = ltb-false n count less in omega arith

pub found_nowhere : (test : List ℕ → Bool) (names : List (List ℕ)) → position test names ≡ None → length names ≡ position_or_len test names
found_nowhere test names none =
    found_by (position_or_len test names) (length names) (position test names) (ltb (position_or_len test names) (length names)) refl
    (fits test names) refl none
