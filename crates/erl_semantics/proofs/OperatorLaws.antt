-- Laws of operators and of functions that are built in.
use Rattle.std.specs.Prelude.{◌≡◌, ◌⊎◌, ◌↔◌, ℕ, zero, suc, ◌+◌, ◌/◌, ◌%◌, ◌*◌, ◌^◌, ◌<◌, ◌≤◌, max, ℤ, pos, negsuc, neg_ℤ, nat_abs}
use Rattle.std.specs.Prelude.{◌+ℤ◌, ◌*ℤ◌, ◌≤ℤ◌, int_div, int_rem, Bool, true, false, ◌&&◌, if◌then◌else◌, nat_le}
use Rattle.std.specs.Prelude.{List, [], ◌∷◌, ◌++◌, length, reverse, Contains, codes, Option, None, Some, option_map, refl}
use Rattle.std.specs.declared.cmp.Ordering.{Ordering}
use Rattle.std.specs.declared.cmp.Ordering.TheVariants.{Less, Equal, Greater}
use Rattle.std.specs.Ordering.{ordering_reverse}
use Rattle.std.proofs.Common.{sym, ◌∙◌, ap, subst, inl, inr, arith, true≢false}
use Rattle.std.proofs.lemmas.Int.{ints, quot-rem, rem_below}
use Rattle.std.proofs.lemmas.Bool.Decides.{nat_tests}
use Rattle.std.proofs.lemmas.List.{reverse-append, append-nil, append_assoc}
use Rattle.std.proofs.lemmas.List.Elements.{Contains-append_right, Contains-append_cases}
use Rattle.std.proofs.Math.Nat.{div-le_self, div-mul-le_self, mul-le-mul_left, mod-le}
use Rattle.erl_term.specs.Tree.{Tree, Trees, int, atom, pid, tuple, list, none, more, count, greatest_depth, total_size}
use Rattle.erl_term.specs.Conversions.{row}
use Rattle.erl_term.specs.Rows.{append_trees}
use Rattle.erl_term.specs.Order.{tree_cmp}
use Rattle.erl_term.specs.OrderLaws.{tree_cmp-total, tree_cmp-same}
use Rattle.erl_semantics.specs.State.{Result, value, exit, exit_by, made, is_within}
use Rattle.erl_semantics.specs.Operators.{fits, integer, is_zero, divided, is_equal, truth}
use Rattle.erl_semantics.specs.BuiltIns.{nth, with_nth, reversed_onto, has_member, value_or_badarg, made_or_badarg, element_of}
use Rattle.erl_semantics.specs.BuiltIns.{with_element, badarg, set_element}
use Rattle.erl_semantics.specs.BuiltIns as built_ins
use Rattle.erl_semantics.specs.OperatorLaws.{QuotientAndRemainder, RemainderIsSmaller, RemainderHasTheSign, ZeroIsBadarith, least}
use Rattle.erl_semantics.specs.OperatorLaws.{IsInRange, RemainderIsThere, QuotientIsThere, LeastByMinusOneIsPastTheLimits}
use Rattle.erl_semantics.specs.OperatorLaws.{ElementsAreNumberedFromOne, NoOtherElements, SetElementReplaces, SetElementIsRead}
use Rattle.erl_semantics.specs.OperatorLaws.{OtherElementsAreKept, TupleSizeIsKept, SetElementFailsWhereElementDoes}
use Rattle.erl_semantics.specs.OperatorLaws.{ReverseOrder, ReversedTwice, LengthIsKept, MembersAreElements}
use Rattle.erl_semantics.proofs.Options.{some_none, some_injective}
use Rattle.erl_semantics.proofs.Uniqueness.{ap2}

-- what a test chose, by what it gave

chosen_first : (b : Bool) (x v : Tree) (word : List ℕ) → (if b then value x else exit_by word) ≡ value v → (b ≡ true) × (v ≡ x)
chosen_first true x v word e = (refl, cc)
chosen_first false x v word e = absurd (let no : ⊥ = cc in no)

chosen_second : (b : Bool) (r : Result) (v : Tree) (word : List ℕ) →
    (if b then exit_by word else r) ≡ value v → (b ≡ false) × (r ≡ value v)
chosen_second true r v word e = absurd (let no : ⊥ = cc in no)
chosen_second false r v word e = (refl, e)

same_int : {m n : ℤ} → int m ≡ int n → m ≡ n
same_int e = cc

-- division

integer_is : (z q : ℤ) → integer z ≡ value (int q) → q ≡ z
integer_is z q e = same_int (chosen_first (fits z) (int z) (int q) (codes "system_limit") e).1

divided_is : (f : ℤ → ℤ → ℤ) (x y q : ℤ) → divided f x y ≡ value (int q) → (is_zero y ≡ false) × (q ≡ f x y)
divided_is f x y q e =
    let parts = chosen_second (is_zero y) (integer (f x y)) (int q) (codes "badarith") e in
    (parts.0, integer_is (f x y) q parts.1)

not_zero : (y : ℤ) → is_zero y ≡ false → 0 < nat_abs y
not_zero (pos n) e = grind (arith, nat_tests)
not_zero (negsuc n) e = omega arith

pub quotient_and_remainder : QuotientAndRemainder
quotient_and_remainder x y q r d e =
    let quotient = (divided_is int_div x y q d).1 in
    let remainder = (divided_is int_rem x y r e).1 in
    sym (quot-rem x y) ∙ ap (λ n. n *ℤ y +ℤ int_rem x y) (sym quotient) ∙ ap (λ n. q *ℤ y +ℤ n) (sym remainder)

pub smaller : RemainderIsSmaller
smaller x y r e =
    let parts = divided_is int_rem x y r e in
    subst (λ n. nat_abs n < nat_abs y) (sym parts.1) (rem_below x y (not_zero y parts.0))

negated_below : (n : ℕ) → neg_ℤ (pos n) ≤ℤ pos 0
negated_below zero = omega (arith, ints)
negated_below (suc n) = omega (arith, ints)

sign_of : (x y : ℤ) → (pos 0 ≤ℤ x → pos 0 ≤ℤ int_rem x y) × (x ≤ℤ pos 0 → int_rem x y ≤ℤ pos 0)
sign_of (pos n) y = (λ h. omega (arith, ints), λ h. omega (arith, ints, mod-le n (nat_abs y)))
sign_of (negsuc n) y = (λ h. absurd (omega (arith, ints)), λ h. negated_below (suc n % nat_abs y))

pub sign : RemainderHasTheSign
sign x y r e =
    let remainder = (divided_is int_rem x y r e).1 in
    subst (λ n. (pos 0 ≤ℤ x → pos 0 ≤ℤ n) × (x ≤ℤ pos 0 → n ≤ℤ pos 0)) (sym remainder) (sign_of x y)

pub by_zero : ZeroIsBadarith
by_zero x = (refl, refl)

fits_in_range : (z : ℤ) → IsInRange z → fits z ≡ true
fits_in_range (pos n) h =
    let above : n < 2 ^ 63 = omega (arith, ints, h.1) in
    grind (arith, nat_tests)
fits_in_range (negsuc n) h =
    let below : n < 2 ^ 63 = omega (arith, ints, h.0) in
    grind (arith, nat_tests)

is_not_zero : (y : ℤ) → ¬ (y ≡ pos 0) → is_zero y ≡ false
is_not_zero (pos zero) other = absurd (other refl)
is_not_zero (pos (suc n)) other = grind (arith, nat_tests)
is_not_zero (negsuc n) other = refl

divided_gives : (f : ℤ → ℤ → ℤ) (x y : ℤ) → ¬ (y ≡ pos 0) → IsInRange (f x y) → divided f x y ≡ value (int (f x y))
divided_gives f x y other there =
    ap (λ b. if b then exit_by (codes "badarith") else integer (f x y)) (is_not_zero y other) ∙
    ap (λ b. if b then value (int (f x y)) else exit_by (codes "system_limit")) (fits_in_range (f x y) there)

negated_in_range : (n : ℕ) → n ≤ 2 ^ 63 → IsInRange (neg_ℤ (pos n))
negated_in_range zero h = (omega (arith, ints), omega (arith, ints))
negated_in_range (suc n) h = (omega (arith, ints), omega (arith, ints))

pos_in_range : (n : ℕ) → n < 2 ^ 63 → IsInRange (pos n)
pos_in_range n h = (omega (arith, ints), omega (arith, ints))

remainder_in_range : (x y : ℤ) → IsInRange x → IsInRange (int_rem x y)
remainder_in_range (pos n) y h =
    let above : n < 2 ^ 63 = omega (arith, ints, h.1) in
    pos_in_range (n % nat_abs y) (omega (arith, mod-le n (nat_abs y)))
remainder_in_range (negsuc n) y h =
    let below : n < 2 ^ 63 = omega (arith, ints, h.0) in
    negated_in_range (suc n % nat_abs y) (omega (arith, mod-le (suc n) (nat_abs y)))

pub remainder_is_there : RemainderIsThere
remainder_is_there x y h k other = (int_rem x y, divided_gives int_rem x y other (remainder_in_range x y h))

-- a quotient by 2 or more
halved : (n m : ℕ) → n ≤ 2 ^ 63 → n / suc (suc m) < 2 ^ 63
halved n m h =
    let low : n / suc (suc m) * suc (suc m) ≤ n = div-mul-le_self n (suc (suc m)) in
    let two : n / suc (suc m) * 2 ≤ n / suc (suc m) * suc (suc m) = mul-le-mul_left (n / suc (suc m)) (omega arith) in
    omega arith

quotient_in_range : (x y : ℤ) → IsInRange x → ¬ ((x ≡ least) × (y ≡ neg_ℤ (pos 1))) → IsInRange (int_div x y)
quotient_in_range (pos n) (pos m) h other =
    let above : n < 2 ^ 63 = omega (arith, ints, h.1) in
    pos_in_range (n / m) (omega (arith, div-le_self n m))
quotient_in_range (pos n) (negsuc m) h other =
    let above : n < 2 ^ 63 = omega (arith, ints, h.1) in
    negated_in_range (n / suc m) (omega (arith, div-le_self n (suc m)))
quotient_in_range (negsuc n) (pos m) h other =
    let below : n < 2 ^ 63 = omega (arith, ints, h.0) in
    negated_in_range (suc n / m) (omega (arith, div-le_self (suc n) m))
quotient_in_range (negsuc n) (negsuc zero) h other =
    let below : n < 2 ^ 63 = omega (arith, ints, h.0) in
    let apart : ¬ (suc n ≡ 2 ^ 63) = λ e. other (omega (arith, ints), refl) in
    pos_in_range (suc n / 1) (omega (arith, div-le_self (suc n) 1))
quotient_in_range (negsuc n) (negsuc (suc m)) h other =
    let below : n < 2 ^ 63 = omega (arith, ints, h.0) in
    pos_in_range (suc n / suc (suc m)) (halved (suc n) m (omega arith))

pub quotient_is_there : QuotientIsThere
quotient_is_there x y h k other last = (int_div x y, divided_gives int_div x y other (quotient_in_range x y h last))

pub past_the_limits : LeastByMinusOneIsPastTheLimits
past_the_limits = refl

-- elements of tuples

-- a row in front of which a term was put
mapped : (o : Option Trees) (t : Tree) (us : Trees) → option_map (λ vs. more t vs) o ≡ Some us →
    (vs : Trees) × (o ≡ Some vs) × (us ≡ more t vs)
mapped None t us e = absurd (some_none (sym e))
mapped (Some vs) t us e = (vs, refl, sym (some_injective e))

nth_with : (n : ℕ) (u : Tree) (ts us : Trees) → with_nth n u ts ≡ Some us → nth n us ≡ Some u
nth_with n u none us e = absurd (some_none (sym e))
nth_with zero u (more t ts) us e = absurd (some_none (sym e))
nth_with (suc zero) u (more t ts) us e = ap (λ vs. nth (suc zero) vs) (sym (some_injective e))
nth_with (suc (suc n)) u (more t ts) us e =
    let rest = mapped (with_nth (suc n) u ts) t us e in
    ap (λ vs. nth (suc (suc n)) vs) rest.2 ∙ nth_with (suc n) u ts rest.0 rest.1

nth_other : (n m : ℕ) (u : Tree) (ts us : Trees) → ¬ (m ≡ n) → with_nth n u ts ≡ Some us → nth m us ≡ nth m ts
nth_other n m u none us other e = absurd (some_none (sym e))
nth_other zero m u (more t ts) us other e = absurd (some_none (sym e))
nth_other (suc zero) zero u (more t ts) us other e = ap (λ vs. nth zero vs) (sym (some_injective e))
nth_other (suc zero) (suc zero) u (more t ts) us other e = absurd (other refl)
nth_other (suc zero) (suc (suc m)) u (more t ts) us other e = ap (λ vs. nth (suc (suc m)) vs) (sym (some_injective e))
nth_other (suc (suc n)) zero u (more t ts) us other e =
    ap (λ vs. nth zero vs) (mapped (with_nth (suc n) u ts) t us e).2
nth_other (suc (suc n)) (suc zero) u (more t ts) us other e =
    ap (λ vs. nth (suc zero) vs) (mapped (with_nth (suc n) u ts) t us e).2
nth_other (suc (suc n)) (suc (suc m)) u (more t ts) us other e =
    let rest = mapped (with_nth (suc n) u ts) t us e in
    ap (λ vs. nth (suc (suc m)) vs) rest.2 ∙ nth_other (suc n) (suc m) u ts rest.0 (λ is. other (ap suc is)) rest.1

count_with : (n : ℕ) (u : Tree) (ts us : Trees) → with_nth n u ts ≡ Some us → count us ≡ count ts
count_with n u none us e = absurd (some_none (sym e))
count_with zero u (more t ts) us e = absurd (some_none (sym e))
count_with (suc zero) u (more t ts) us e = ap count (sym (some_injective e))
count_with (suc (suc n)) u (more t ts) us e =
    let rest = mapped (with_nth (suc n) u ts) t us e in
    ap count rest.2 ∙ ap (λ k. 1 + k) (count_with (suc n) u ts rest.0 rest.1)

nth_zero : (ts : Trees) → nth zero ts ≡ None
nth_zero none = refl
nth_zero (more t ts) = refl

-- The row of a tuple that was made.
made_row : (o : Option Trees) (u : Tree) → made_or_badarg o ≡ value u → (us : Trees) × (o ≡ Some us) × (u ≡ tuple us)
made_row None u e = absurd (let no : ⊥ = cc in no)
made_row (Some us) u e = (us, refl, (chosen_first (is_within (tuple us)) (tuple us) u (codes "system_limit") e).1)

-- what `setelement/3` gave, by its rows
set_rows : (x t v u : Tree) → set_element x t v ≡ value u →
    (ts : Trees) × (us : Trees) × (t ≡ tuple ts) × (with_element x v ts ≡ Some us) × (u ≡ tuple us)
set_rows x (int n) v u e = absurd (let no : ⊥ = cc in no)
set_rows x (atom cs) v u e = absurd (let no : ⊥ = cc in no)
set_rows x (pid n) v u e = absurd (let no : ⊥ = cc in no)
set_rows x (tuple ts) v u e = let there = made_row (with_element x v ts) u e in (ts, there.0, refl, there.1, there.2)
set_rows x (list ts) v u e = absurd (let no : ⊥ = cc in no)

element_with : (x v : Tree) (ts us : Trees) → with_element x v ts ≡ Some us → element_of x us ≡ Some v
element_with (int (pos n)) v ts us e = nth_with n v ts us e
element_with (int (negsuc n)) v ts us e = absurd (some_none (sym e))
element_with (atom cs) v ts us e = absurd (some_none (sym e))
element_with (pid n) v ts us e = absurd (some_none (sym e))
element_with (tuple vs) v ts us e = absurd (some_none (sym e))
element_with (list vs) v ts us e = absurd (some_none (sym e))

count_of : (x v : Tree) (ts us : Trees) → with_element x v ts ≡ Some us → count us ≡ count ts
count_of (int (pos n)) v ts us e = count_with n v ts us e
count_of (int (negsuc n)) v ts us e = absurd (some_none (sym e))
count_of (atom cs) v ts us e = absurd (some_none (sym e))
count_of (pid n) v ts us e = absurd (some_none (sym e))
count_of (tuple vs) v ts us e = absurd (some_none (sym e))
count_of (list vs) v ts us e = absurd (some_none (sym e))

element_other : (n : ℕ) (y v : Tree) (ts us : Trees) → ¬ (y ≡ int (pos n)) → with_nth n v ts ≡ Some us →
    element_of y us ≡ element_of y ts
element_other n (int (pos m)) v ts us other e = nth_other n m v ts us (λ is. other (ap (λ k. int (pos k)) is)) e
element_other n (int (negsuc m)) v ts us other e = refl
element_other n (atom cs) v ts us other e = refl
element_other n (pid m) v ts us other e = refl
element_other n (tuple vs) v ts us other e = refl
element_other n (list vs) v ts us other e = refl

other_with : (x y v : Tree) (ts us : Trees) → ¬ (y ≡ x) → with_element x v ts ≡ Some us → element_of y us ≡ element_of y ts
other_with (int (pos n)) y v ts us other e = element_other n y v ts us other e
other_with (int (negsuc n)) y v ts us other e = absurd (some_none (sym e))
other_with (atom cs) y v ts us other e = absurd (some_none (sym e))
other_with (pid n) y v ts us other e = absurd (some_none (sym e))
other_with (tuple vs) y v ts us other e = absurd (some_none (sym e))
other_with (list vs) y v ts us other e = absurd (some_none (sym e))

pub is_read : SetElementIsRead
is_read self n t v u e =
    let rows = set_rows n t v u e in
    ap (λ y. built_ins.element n y) rows.4 ∙ ap value_or_badarg (element_with n v rows.0 rows.1 rows.3)

pub others_are_kept : OtherElementsAreKept
others_are_kept self n m t v u e other =
    let rows = set_rows n t v u e in
    ap (λ y. built_ins.element m y) rows.4 ∙ ap value_or_badarg (other_with n m v rows.0 rows.1 other rows.3) ∙
    ap (λ y. built_ins.element m y) (sym rows.2)

pub size_is_kept : TupleSizeIsKept
size_is_kept self n t v u e =
    let rows = set_rows n t v u e in
    ap (λ y. built_ins.size_of_tuple y) rows.4 ∙ ap (λ k. value (int (pos k))) (count_of n v rows.0 rows.1 rows.3) ∙
    ap (λ y. built_ins.size_of_tuple y) (sym rows.2)

nth_behind : (before : List Tree) (v : Tree) (behind : List Tree) →
    nth (suc (length before)) (row (before ++ v ∷ behind)) ≡ Some v
nth_behind [] v behind = refl
nth_behind (t ∷ before) v behind = nth_behind before v behind

pub numbered : ElementsAreNumberedFromOne
numbered self before v behind =
    let index : length before + 1 ≡ suc (length before) = omega arith in
    ap (λ n. value_or_badarg (nth n (row (before ++ v ∷ behind)))) index ∙ ap value_or_badarg (nth_behind before v behind)

with_nth_behind : (before : List Tree) (t : Tree) (behind : List Tree) (v : Tree) →
    with_nth (suc (length before)) v (row (before ++ t ∷ behind)) ≡ Some (row (before ++ v ∷ behind))
with_nth_behind [] t behind v = refl
with_nth_behind (u ∷ before) t behind v = ap (λ o. option_map (λ us. more u us) o) (with_nth_behind before t behind v)

pub replaces : SetElementReplaces
replaces self before t behind v =
    let index : length before + 1 ≡ suc (length before) = omega arith in
    ap (λ n. made_or_badarg (with_nth n v (row (before ++ t ∷ behind)))) index ∙
    ap made_or_badarg (with_nth_behind before t behind v)

nth_nowhere : (n : ℕ) (ts : List Tree) → ((k : ℕ) → k < length ts → ¬ (n ≡ k)) → nth (suc n) (row ts) ≡ None
nth_nowhere n [] nowhere = refl
nth_nowhere zero (t ∷ ts) nowhere = absurd (nowhere 0 (omega arith) refl)
nth_nowhere (suc n) (t ∷ ts) nowhere = nth_nowhere n ts (λ k below e. nowhere (suc k) (omega (arith, below)) (ap suc e))

numbered_int : (n k : ℕ) → n ≡ k → int (pos (suc n)) ≡ int (pos (k + 1))
numbered_int n k e = ap (λ m. int (pos m)) (omega (arith, e))

pub no_others : NoOtherElements
no_others self (int (pos zero)) ts nowhere = ap value_or_badarg (nth_zero (row ts))
no_others self (int (pos (suc n))) ts nowhere =
    ap value_or_badarg (nth_nowhere n ts (λ k below e. nowhere k below (numbered_int n k e)))
no_others self (int (negsuc n)) ts nowhere = refl
no_others self (atom cs) ts nowhere = refl
no_others self (pid n) ts nowhere = refl
no_others self (tuple us) ts nowhere = refl
no_others self (list us) ts nowhere = refl

-- an element that is there, or isn't, with the row that has another there

pub data Element (o : Option Tree) (p : Option Trees) : Type 0 where
  missing : o ≡ None → p ≡ None → Element o p
  found : (t : Tree) (us : Trees) → o ≡ Some t → p ≡ Some us → Element o p

index_behind : (n : ℕ) (t v : Tree) (ts : Trees) → Element (nth (suc n) ts) (with_nth (suc n) v ts) →
    Element (nth (suc (suc n)) (more t ts)) (with_nth (suc (suc n)) v (more t ts))
index_behind n t v ts (missing p q) = missing p (ap (λ o. option_map (λ us. more t us) o) q)
index_behind n t v ts (found u us p q) = found u (more t us) p (ap (λ o. option_map (λ vs. more t vs) o) q)

index_of : (n : ℕ) (v : Tree) (ts : Trees) → Element (nth n ts) (with_nth n v ts)
index_of n v none = missing refl refl
index_of zero v (more t ts) = missing refl refl
index_of (suc zero) v (more t ts) = found t (more v ts) refl refl
index_of (suc (suc n)) v (more t ts) = index_behind n t v ts (index_of (suc n) v ts)

element_index : (x v : Tree) (ts : Trees) → Element (element_of x ts) (with_element x v ts)
element_index (int (pos n)) v ts = index_of n v ts
element_index (int (negsuc n)) v ts = missing refl refl
element_index (atom cs) v ts = missing refl refl
element_index (pid n) v ts = missing refl refl
element_index (tuple us) v ts = missing refl refl
element_index (list us) v ts = missing refl refl

-- the first character of a reason
abbrev initial : Result → ℕ
initial (exit (atom (c ∷ cs))) = c
initial r = 0

made_not_badarg : (b : Bool) (t : Tree) → (if b then value t else exit_by (codes "system_limit")) ≡ badarg → ⊥
made_not_badarg true t e = cc
made_not_badarg false t e = omega (arith, ap initial e)

both_fail : (o : Option Tree) (p : Option Trees) → Element o p → (made_or_badarg p ≡ badarg) ↔ (value_or_badarg o ≡ badarg)
both_fail o p (missing e f) = (λ is. ap value_or_badarg e, λ is. ap made_or_badarg f)
both_fail o p (found t us e f) = (
  λ is. absurd (made_not_badarg (is_within (tuple us)) (tuple us) (sym (ap made_or_badarg f) ∙ is)),
  λ is. absurd (let no : value t ≡ badarg = sym (ap value_or_badarg e) ∙ is in let never : ⊥ = cc in never),
)

pub fails : SetElementFailsWhereElementDoes
fails self n (int m) v = (λ e. refl, λ e. refl)
fails self n (atom cs) v = (λ e. refl, λ e. refl)
fails self n (pid m) v = (λ e. refl, λ e. refl)
fails self n (tuple ts) v = both_fail (element_of n ts) (with_element n v ts) (element_index n v ts)
fails self n (list ts) v = (λ e. refl, λ e. refl)

-- lists

reversed_count : (ts us : Trees) → count (reversed_onto ts us) ≡ count ts + count us
reversed_count none us = omega arith
reversed_count (more t ts) us = omega (arith, reversed_count ts (more t us))

reversed_depth : (ts us : Trees) → greatest_depth (reversed_onto ts us) ≡ max (greatest_depth ts) (greatest_depth us)
reversed_depth none us = omega arith
reversed_depth (more t ts) us = omega (arith, reversed_depth ts (more t us))

reversed_size : (ts us : Trees) → total_size (reversed_onto ts us) ≡ total_size ts + total_size us
reversed_size none us = omega arith
reversed_size (more t ts) us = omega (arith, reversed_size ts (more t us))

reversed_back : (ts us vs : Trees) → reversed_onto (reversed_onto ts us) vs ≡ reversed_onto us (append_trees ts vs)
reversed_back none us vs = refl
reversed_back (more t ts) us vs = reversed_back ts (more t us) vs

append_none : (ts : Trees) → append_trees ts none ≡ ts
append_none none = refl
append_none (more t ts) = ap (λ us. more t us) (append_none ts)

reversed_twice_is : (ts : Trees) → reversed_onto (reversed_onto ts none) none ≡ ts
reversed_twice_is ts = reversed_back ts none none ∙ append_none ts

within_as : (ts us : Trees) → greatest_depth ts ≡ greatest_depth us → total_size ts ≡ total_size us →
    is_within (list ts) ≡ is_within (list us)
within_as ts us d s = ap2 (λ m n. nat_le (1 + m) 256 && nat_le (1 + n) 65536) d s

reversed_within : (ts : Trees) → is_within (list ts) ≡ is_within (list (reversed_onto ts none))
reversed_within ts = within_as ts (reversed_onto ts none) (omega (arith, reversed_depth ts none))
    (omega (arith, reversed_size ts none))

reversed_row : (ts : Trees) (m : Tree) → made (list (reversed_onto ts none)) ≡ value m →
    (is_within (list (reversed_onto ts none)) ≡ true) × (m ≡ list (reversed_onto ts none))
reversed_row ts m e =
    chosen_first (is_within (list (reversed_onto ts none))) (list (reversed_onto ts none)) m (codes "system_limit") e

pub reversed_twice : ReversedTwice
reversed_twice self (int n) m e = absurd (let no : ⊥ = cc in no)
reversed_twice self (atom cs) m e = absurd (let no : ⊥ = cc in no)
reversed_twice self (pid n) m e = absurd (let no : ⊥ = cc in no)
reversed_twice self (tuple ts) m e = absurd (let no : ⊥ = cc in no)
reversed_twice self (list ts) m e =
    let parts = reversed_row ts m e in
    ap (λ t. built_ins.reversed t) parts.1 ∙ ap (λ us. made (list us)) (reversed_twice_is ts) ∙
    ap (λ b. if b then value (list ts) else exit_by (codes "system_limit")) (reversed_within ts ∙ parts.0)

pub length_is_kept : LengthIsKept
length_is_kept self (int n) m e = absurd (let no : ⊥ = cc in no)
length_is_kept self (atom cs) m e = absurd (let no : ⊥ = cc in no)
length_is_kept self (pid n) m e = absurd (let no : ⊥ = cc in no)
length_is_kept self (tuple ts) m e = absurd (let no : ⊥ = cc in no)
length_is_kept self (list ts) m e =
    let same : count (reversed_onto ts none) ≡ count ts = omega (arith, reversed_count ts none) in
    ap (λ t. built_ins.list_length t) (reversed_row ts m e).1 ∙ ap (λ k. value (int (pos k))) same

reverse_onto : (t : Tree) (ts us : List Tree) → reverse ts ++ t ∷ us ≡ reverse (t ∷ ts) ++ us
reverse_onto t ts us = sym (ap (λ r. r ++ us) (reverse-append (t ∷ []) ts) ∙ append_assoc (reverse ts) (t ∷ []) us)

reversed_onto_is : (ts us : List Tree) → reversed_onto (row ts) (row us) ≡ row (reverse ts ++ us)
reversed_onto_is [] us = refl
reversed_onto_is (t ∷ ts) us = reversed_onto_is ts (t ∷ us) ∙ ap row (reverse_onto t ts us)

pub reverse_order : ReverseOrder
reverse_order self ts = ap (λ us. made (list us)) (reversed_onto_is ts [] ∙ ap row (append-nil (reverse ts)))

-- members

same_cmp : (o : Ordering) → o ≡ ordering_reverse o → o ≡ Equal
same_cmp Less e = absurd (let no : ⊥ = cc in no)
same_cmp Equal e = refl
same_cmp Greater e = absurd (let no : ⊥ = cc in no)

equal_to_itself : (t : Tree) → tree_cmp t t ≡ Equal
equal_to_itself t = same_cmp (tree_cmp t t) (tree_cmp-total.antisymm t t)

is_equal_only : (o : Ordering) → is_equal o ≡ true → o ≡ Equal
is_equal_only Less e = absurd (true≢false (sym e))
is_equal_only Equal e = refl
is_equal_only Greater e = absurd (true≢false (sym e))

in_one : (u t : Tree) → Contains (u ∷ []) t → u ≡ t
in_one u t (zero, within, is) = is
in_one u t (suc k, within, is) = absurd (omega (arith, within))

either_true : (b c : Bool) → (if b then true else c) ≡ true → (b ≡ true) ⊎ (c ≡ true)
either_true true c e = inl refl
either_true false c e = inr e

first_true : (b c : Bool) → b ≡ true → (if b then true else c) ≡ true
first_true b c e = ap (λ d. if d then true else c) e

second_true : (b c : Bool) → c ≡ true → (if b then true else c) ≡ true
second_true true c e = refl
second_true false c e = e

member_there : (t : Tree) (ts : List Tree) → has_member t (row ts) ≡ true → Contains ts t
member_there t [] e = absurd (true≢false (sym e))
member_there t (u ∷ us) e =
    elim (either_true (is_equal (tree_cmp t u)) (has_member t (row us)) e) [
      | inl here ↦ (0, omega arith, sym (tree_cmp-same t u (is_equal_only (tree_cmp t u) here)))
      | inr there ↦ Contains-append_right (u ∷ []) us t (member_there t us there)
    ]

there_member : (t : Tree) (ts : List Tree) → Contains ts t → has_member t (row ts) ≡ true
there_member t [] (k, within, is) = absurd (omega (arith, within))
there_member t (u ∷ us) there =
    elim (Contains-append_cases (u ∷ []) us t there) [
      | inl one ↦ first_true (is_equal (tree_cmp t u)) (has_member t (row us))
          (ap is_equal (ap (λ v. tree_cmp t v) (in_one u t one) ∙ equal_to_itself t))
      | inr others ↦ second_true (is_equal (tree_cmp t u)) (has_member t (row us)) (there_member t us others)
    ]

-- the first character of an atom
abbrev letter : Result → ℕ
letter (value (atom (c ∷ cs))) = c
letter r = 0

is_truth : (b : Bool) → (value (truth b) ≡ value (atom (codes "true"))) ↔ (b ≡ true)
is_truth true = (λ e. refl, λ e. refl)
is_truth false = (λ e. absurd (omega (arith, ap letter e)), λ e. absurd (true≢false (sym e)))

is_untruth : (b : Bool) → (value (truth b) ≡ value (atom (codes "false"))) ↔ (b ≡ false)
is_untruth true = (λ e. absurd (omega (arith, ap letter e)), λ e. absurd (true≢false e))
is_untruth false = (λ e. refl, λ e. refl)

otherwise : (b : Bool) → ¬ (b ≡ true) → b ≡ false
otherwise true other = absurd (other refl)
otherwise false other = refl

pub members : MembersAreElements
members self t ts =
    let b : Bool = has_member t (row ts) in (
      (λ e. member_there t ts ((is_truth b).0 e), λ there. (is_truth b).1 (there_member t ts there)),
      (
        λ e. λ there. true≢false (sym (there_member t ts there) ∙ (is_untruth b).0 e),
        λ nowhere. (is_untruth b).1 (otherwise b (λ e. nowhere (member_there t ts e))),
      ),
    )
