-- Where names stand in a list.
use Rattle.std.proofs.Common.{◌≡◌, ℕ, zero, suc, ◌+◌, ◌-◌, ◌<◌, ◌≤◌, Bool, true, false, eqb, List, [], ◌∷◌, ◌++◌, length, get_or, take, drop, Option, Some, sym, ap, ◌∙◌, refl, arith}
use Rattle.std.specs.Prelude.{not, ◌&&◌, ◌||◌, if◌then◌else◌, String, string_bytes}
use Rattle.std.specs.List.{list_any, filter}
use Rattle.std.specs.Option.{is_some}
use Rattle.std.specs.BTreeMap.{BTreeMap, Updates, get_by_text}
use Rattle.std.specs.Str.{IsUtf8, bytes_eq, chars}
use Rattle.std.specs.String.{string_cmp}
use Rattle.std.proofs.lemmas.List.{drop_more, take_more}
use Rattle.std.proofs.lemmas.List.Elements.{filter_agree}
use Rattle.std.proofs.lemmas.Bool.Decides.{nat_tests, same_from_decides}
use Rattle.std.proofs.lemmas.Slice.Eq.{bytes_eq-Decides}
use Rattle.std.proofs.lemmas.Map.Text.{btree_map_updates_text}
use Rattle.high_instructions.specs.Forms.{Name, Names}
use Rattle.otp_files.proofs.Distinct.{chars_eq}
use Rattle.relup_make.specs.Indexes.{FindsFrom, index_of}
use Rattle.relup_make.specs.Scripts.{each_once}

-- The names from one index before on

pub one_before : {A : Type 0} (items : List A) (i : ℕ) (x : A) → 0 < i → i - 1 < length items → x ≡ get_or items (i - 1) x → drop (i - 1) items ≡ x ∷ drop i items
one_before items i x above within is =
    let back : (i - 1) + 1 ≡ i = omega arith in
    drop_more items (i - 1) x within ∙ ap (λ u. u ∷ drop (i - 1 + 1) items) (sym is) ∙ ap (λ j. x ∷ drop j items) back

-- one name more in front: its index under it, and the others' as they were
placed_before : (items : Names) (i : ℕ) (x name text : Name) (behind : Option ℕ) → 0 < i → drop (i - 1) items ≡ x ∷ drop i items → chars name ≡ x → IsUtf8 name → IsUtf8 text → behind ≡ index_of i (chars text) (drop i items) → (if bytes_eq name text then Some (i - 1) else behind) ≡ index_of (i - 1) (chars text) (drop (i - 1) items)
placed_before items i x name text behind above before is one other so_far =
    let next : i ≡ i - 1 + 1 = omega arith in
    let same : bytes_eq name text ≡ bytes_eq x (chars text) = chars_eq name text one other ∙ ap (λ cs. bytes_eq cs (chars text)) is in
    ap (λ b. if b then Some (i - 1) else behind) same ∙ ap (λ o. if bytes_eq x (chars text) then Some (i - 1) else o) (so_far ∙ ap (λ j. index_of j (chars text) (drop i items)) next) ∙ ap (index_of (i - 1) (chars text)) (sym before)

pub one_more : {A : Type 0} (items : Names) (i : ℕ) (x : Name) (key : String A) (old new : BTreeMap (String A) ℕ) → 0 < i → drop (i - 1) items ≡ x ∷ drop i items → chars (string_bytes key) ≡ x → IsUtf8 (string_bytes key) → Updates string_cmp old new key (Some (i - 1)) → FindsFrom i old (drop i items) → FindsFrom (i - 1) new (drop (i - 1) items)
one_more items i x key old new above before is utf8 updates so_far text whole =
    btree_map_updates_text (string_bytes key) old new (Some (i - 1)) updates text ∙ placed_before items i x (string_bytes key) text (get_by_text old text) above before is utf8 whole (so_far text whole)

-- A name has an index where it is one of them

placed : (b : Bool) (index : ℕ) (behind : Option ℕ) (others : Bool) → is_some behind ≡ others → is_some (if b then Some index else behind) ≡ (b || others)
placed true index behind others e = refl
placed false index behind others e = e

pub is_placed : (index : ℕ) (name : Name) (names : Names) → is_some (index_of index name names) ≡ list_any (λ other. bytes_eq other name) names
is_placed index name [] = refl
is_placed index name (x ∷ xs) =
    placed (bytes_eq x name) index (index_of (index + 1) name xs) _ (is_placed (index + 1) name xs)

-- The first index of the name at an index: this one, where the name does not stand before

pub itself : (x : Name) → bytes_eq x x ≡ true
itself x = (bytes_eq-Decides x x).1 refl

pub record StandsFirst (k : ℕ) (x : Name) (xs : Names) (i : ℕ) : Type 0 where
  pub first : ℕ
  pub is : index_of k x xs ≡ Some first
  pub before : first ≤ k + i
  pub here : eqb first (k + i) ≡ not (list_any (λ o. bytes_eq o x) (take i xs))

told_here : (k : ℕ) (x o : Name) (os : Names) → bytes_eq o x ≡ true → StandsFirst k x (o ∷ os) 0
told_here k x o os e = record {
  first = k;
  is = ap (λ b. if b then Some k else index_of (k + 1) x os) e;
  before = omega arith;
  here = grind (arith, nat_tests);
}

told_later : (k : ℕ) (x o : Name) (os : Names) (j : ℕ) (b : Bool) → bytes_eq o x ≡ b → StandsFirst (k + 1) x os j → StandsFirst k x (o ∷ os) (suc j)
told_later k x o os j true e further = record {
  first = k;
  is = ap (λ c. if c then Some k else index_of (k + 1) x os) e;
  before = omega arith;
  here =
      let far : eqb k (k + suc j) ≡ false = grind (arith, nat_tests) in
      far ∙ sym (ap (λ c. not (c || list_any (λ p. bytes_eq p x) (take j os))) e);
}
told_later k x o os j false e further = record {
  first = further.first;
  is = ap (λ c. if c then Some k else index_of (k + 1) x os) e ∙ further.is;
  before = omega arith;
  here =
      let next : k + suc j ≡ k + 1 + j = omega arith in
      ap (eqb further.first) next ∙ further.here ∙ sym (ap (λ c. not (c || list_any (λ p. bytes_eq p x) (take j os))) e);
}

pub told : (k : ℕ) (x : Name) (xs : Names) (i : ℕ) → i < length xs → x ≡ get_or xs i x → StandsFirst k x xs i
told k x [] i within is = absurd (omega arith)
told k x (o ∷ os) zero within is = told_here k x o os (ap (λ y. bytes_eq y x) (sym is) ∙ itself x)
told k x (o ∷ os) (suc j) within is = told_later k x o os j (bytes_eq o x) refl (told (k + 1) x os j (omega arith) is)

-- Each name once

-- those of a list that are not among others
abbrev pub not_among : Names → Names → Names
not_among others names = filter (λ n. not (list_any (λ o. bytes_eq o n) others)) names

eq_turned : (xs ys : Name) → bytes_eq xs ys ≡ bytes_eq ys xs
eq_turned xs ys =
    let one = bytes_eq-Decides xs ys in
    let other = bytes_eq-Decides ys xs in
    same_from_decides (bytes_eq xs ys) (bytes_eq ys xs) (λ yes. sym (one.0 yes), λ e. one.1 (sym e)) other

filtered_twice : {A : Type 0} (p q : A → Bool) (xs : List A) → filter p (filter q xs) ≡ filter (λ x. q x && p x) xs
filtered_twice p q [] = refl
filtered_twice p q (x ∷ xs) =
    let later = filtered_twice p q xs in
    elim (q x) as (λ b. filter p (if b then x ∷ filter q xs else filter q xs) ≡ (if b && p x then x ∷ filter (λ y. q y && p y) xs else filter (λ y. q y && p y) xs)) [
      | true ↦ ap (λ ys. if p x then x ∷ ys else ys) later
      | false ↦ later
    ]

any_push : {A : Type 0} (p : A → Bool) (xs : List A) (x : A) → list_any p (xs ++ x ∷ []) ≡ (p x || list_any p xs)
any_push p [] x = refl
any_push p (y ∷ ys) x =
    ap (λ b. p y || b) (any_push p ys x) ∙ turned (p y) (p x) (list_any p ys)
  where
    turned : (a b c : Bool) → (a || (b || c)) ≡ (b || (a || c))
    turned true true c = refl
    turned true false c = refl
    turned false true c = refl
    turned false false c = refl

-- one more is seen
seen_more : (others names : Names) (x : Name) → not_among others (filter (λ n. not (bytes_eq n x)) names) ≡ not_among (others ++ x ∷ []) names
seen_more others names x =
    filtered_twice (λ n. not (list_any (λ o. bytes_eq o n) others)) (λ n. not (bytes_eq n x)) names
    ∙ filter_agree _ _ (λ n. both (bytes_eq n x) (bytes_eq x n) (list_any (λ o. bytes_eq o n) others) (eq_turned n x) ∙ ap not (sym (any_push (λ o. bytes_eq o n) others x))) names
  where
    both : (a b c : Bool) → a ≡ b → (not a && not c) ≡ not (b || c)
    both true b c e = ap (λ d. not (d || c)) e
    both false b c e = ap (λ d. not (d || c)) e

first_kept : (others : Names) (x : Name) (names : Names) → list_any (λ o. bytes_eq o x) others ≡ false → not_among others (x ∷ names) ≡ x ∷ not_among others names
first_kept others x names e = ap (λ b. if not b then x ∷ not_among others names else not_among others names) e

first_passed : (others : Names) (x : Name) (names : Names) → list_any (λ o. bytes_eq o x) others ≡ true → not_among others (x ∷ names) ≡ not_among others names
first_passed others x names e = ap (λ b. if not b then x ∷ not_among others names else not_among others names) e

-- what is left of each_once, by the names before
abbrev pub left : ℕ → Names → Names
left i names = not_among (take i names) (each_once (drop i names))

seen_here : (xs : Names) (i : ℕ) (x : Name) → i < length xs → x ≡ get_or xs i x → take i xs ++ x ∷ [] ≡ take (i + 1) xs
seen_here xs i x within is = ap (λ u. take i xs ++ u ∷ []) is ∙ sym (take_more xs i x within)

from_here : (xs : Names) (i : ℕ) (x : Name) → i < length xs → x ≡ get_or xs i x → drop i xs ≡ x ∷ drop (i + 1) xs
from_here xs i x within is = drop_more xs i x within ∙ ap (λ u. u ∷ drop (i + 1) xs) (sym is)

flipped : (b : Bool) → not b ≡ true → b ≡ false
flipped true e = absurd (let never : ⊥ = cc in never)
flipped false e = refl

unflipped : (b : Bool) → not b ≡ false → b ≡ true
unflipped true e = refl
unflipped false e = absurd (let never : ⊥ = cc in never)

same_number : (a b : ℕ) → a ≡ b → eqb a b ≡ true
same_number a b e = grind (arith, nat_tests)

other_number : (a b : ℕ) → (a ≡ b → ⊥) → eqb a b ≡ false
other_number a b e = grind (arith, nat_tests)

one_index : {a b : ℕ} → Some a ≡ Some b → a ≡ b
one_index e = cc

pub left_first : (xs : Names) (i : ℕ) (x : Name) → i < length xs → x ≡ get_or xs i x → index_of 0 x xs ≡ Some i → left i xs ≡ x ∷ left (i + 1) xs
left_first xs i x within is first =
    let t = told 0 x xs i within is in
    let exact : t.first ≡ i = one_index (sym t.is ∙ first) in
    let same : t.first ≡ 0 + i = omega arith in
    let new : list_any (λ o. bytes_eq o x) (take i xs) ≡ false = flipped _ (sym t.here ∙ same_number t.first (0 + i) same) in
    ap (λ ns. not_among (take i xs) (each_once ns)) (from_here xs i x within is)
    ∙ first_kept (take i xs) x (filter (λ n. not (bytes_eq n x)) (each_once (drop (i + 1) xs))) new
    ∙ ap (λ ns. x ∷ ns) (seen_more (take i xs) (each_once (drop (i + 1) xs)) x ∙ ap (λ os. not_among os (each_once (drop (i + 1) xs))) (seen_here xs i x within is))

once_more : (xs firsts : Names) (i : ℕ) (x : Name) → i < length xs → x ≡ get_or xs i x → index_of 0 x xs ≡ Some i → each_once xs ≡ firsts ++ left i xs → each_once xs ≡ (firsts ++ x ∷ []) ++ left (i + 1) xs
once_more xs firsts i x within is first so_far =
    so_far ∙ ap (λ ns. firsts ++ ns) (left_first xs i x within is first) ∙ regrouped firsts x (left (i + 1) xs)
  where
    regrouped : (ns : Names) (x : Name) (ms : Names) → ns ++ x ∷ ms ≡ (ns ++ x ∷ []) ++ ms
    regrouped [] x ms = refl
    regrouped (n ∷ ns) x ms = ap (λ others. n ∷ others) (regrouped ns x ms)

-- the same of names that are known by another list, and what is pushed by a copy
pub once_pushed : (names xs firsts pushed : Names) (i : ℕ) (x y : Name) → xs ≡ names → i < length xs → x ≡ get_or xs i x → index_of 0 x names ≡ Some i → y ≡ x → pushed ≡ firsts ++ y ∷ [] → each_once xs ≡ firsts ++ left i xs → each_once xs ≡ pushed ++ left (i + 1) xs
once_pushed names xs firsts pushed i x y seen within is first copied push so_far =
    once_more xs firsts i x within is (ap (index_of 0 x) seen ∙ first) so_far ∙ ap (λ ns. ns ++ left (i + 1) xs) (ap (λ n. firsts ++ n ∷ []) (sym copied) ∙ sym push)

pub left_other : (xs : Names) (i : ℕ) (x : Name) → i < length xs → x ≡ get_or xs i x → (index_of 0 x xs ≡ Some i → ⊥) → left i xs ≡ left (i + 1) xs
left_other xs i x within is other =
    let t = told 0 x xs i within is in
    let apart : t.first ≡ 0 + i → ⊥ = λ e. other (t.is ∙ ap (λ n. Some n) (e ∙ zero_less i)) in
    let old : list_any (λ o. bytes_eq o x) (take i xs) ≡ true = unflipped _ (sym t.here ∙ other_number t.first (0 + i) apart) in
    ap (λ ns. not_among (take i xs) (each_once ns)) (from_here xs i x within is)
    ∙ first_passed (take i xs) x (filter (λ n. not (bytes_eq n x)) (each_once (drop (i + 1) xs))) old
    ∙ seen_more (take i xs) (each_once (drop (i + 1) xs)) x ∙ ap (λ os. not_among os (each_once (drop (i + 1) xs))) (seen_here xs i x within is)
  where
    zero_less : (n : ℕ) → 0 + n ≡ n
    zero_less n = omega arith

pub once_passed_in : (names xs firsts kept : Names) (i : ℕ) (x : Name) → xs ≡ names → i < length xs → x ≡ get_or xs i x → (index_of 0 x names ≡ Some i → ⊥) → kept ≡ firsts → each_once xs ≡ firsts ++ left i xs → each_once xs ≡ kept ++ left (i + 1) xs
once_passed_in names xs firsts kept i x seen within is other same so_far =
    so_far ∙ ap (λ ns. firsts ++ ns) (left_other xs i x within is (λ e. other (ap (index_of 0 x) (sym seen) ∙ e))) ∙ ap (λ ns. ns ++ left (i + 1) xs) (sym same)

all_kept : (ns : Names) → not_among [] ns ≡ ns
all_kept [] = refl
all_kept (n ∷ ns) = ap (λ others. n ∷ others) (all_kept ns)

pub left_all : (xs : Names) → left 0 xs ≡ each_once xs
left_all xs = all_kept (each_once xs)

pub once_begun : (xs firsts : Names) → firsts ≡ [] → each_once xs ≡ firsts ++ left 0 xs
once_begun xs firsts none = sym (ap (λ ns. ns ++ left 0 xs) none ∙ left_all xs)
