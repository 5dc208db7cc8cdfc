-- The brackets that are open among tokens.
use Rattle.std.proofs.Common.{◌≡◌, ℕ, zero, suc, ◌+◌, ◌≤◌, Bool, true, false, cond, List, [], ◌∷◌, ◌++◌, length, Some, None, refl, ap, sym, ◌∙◌, append_assoc, arith, true≢false}
use Rattle.std.specs.Prelude.{Option}
use Rattle.std.specs.Option.{option_and_then}
use Rattle.std.proofs.lemmas.List.Sums.{sum_by-cons}
use Rattle.std.proofs.lemmas.Option.{none-some, same_Some}
use Rattle.erl_scan.specs.declared.token.Spot.{Spot}
use Rattle.erl_consult.specs.Grammar.{Part, number, minus, plus, name, string, open_tuple, close_tuple, open_list, close_list, comma, bar, dot, unread, foreign}
use Rattle.erl_consult.specs.Faults.{spot_part, opens, closes, opened, closed, IsInnermost}

-- Lists

head_or : Spot → List Spot → Spot
head_or d [] = d
head_or d (s ∷ ss) = s

tail_of : List Spot → List Spot
tail_of [] = []
tail_of (s ∷ ss) = ss

pub same_head : (s t : Spot) (ss ts : List Spot) → s ∷ ss ≡ t ∷ ts → s ≡ t
unfolding head_or
same_head s t ss ts e = ap (head_or s) e

pub same_tail : (s t : Spot) (ss ts : List Spot) → s ∷ ss ≡ t ∷ ts → ss ≡ ts
unfolding tail_of
same_tail s t ss ts e = ap tail_of e

-- How many are open after some tokens, from a number that was open: none where one closes too many.

abbrev move : Bool → Bool → ℕ → Option ℕ
move true c h = Some (suc h)
move false true zero = None
move false true (suc h) = Some h
move false false h = Some h

abbrev pub walk : ℕ → List Spot → Option ℕ
walk h [] = Some h
walk h (s ∷ ss) = option_and_then (λ k. walk k ss) (move (opens (spot_part s)) (closes (spot_part s)) h)

walk-append_on : (xs ys : List Spot) (next : Option ℕ) → ((k : ℕ) → walk k (xs ++ ys) ≡ option_and_then (λ n. walk n ys) (walk k xs)) → option_and_then (λ k. walk k (xs ++ ys)) next ≡ option_and_then (λ n. walk n ys) (option_and_then (λ k. walk k xs) next)
walk-append_on xs ys None later = refl
walk-append_on xs ys (Some k) later = later k

pub walk-append : (xs ys : List Spot) (h : ℕ) → walk h (xs ++ ys) ≡ option_and_then (λ n. walk n ys) (walk h xs)
walk-append [] ys h = refl
walk-append (x ∷ xs) ys h =
    walk-append_on xs ys (move (opens (spot_part x)) (closes (spot_part x)) h) (λ k. walk-append xs ys k)

-- from one more, to one more
move-more : (o c : Bool) (h k : ℕ) → move o c h ≡ Some k → move o c (suc h) ≡ Some (suc k)
move-more true c h k e = ap (λ n. Some (suc n)) (same_Some (suc h) k e)
move-more false true zero k e = absurd (none-some k e)
move-more false true (suc h) k e = ap (λ n. Some (suc n)) (same_Some h k e)
move-more false false h k e = ap (λ n. Some (suc n)) (same_Some h k e)

walk-more_on : (s : Spot) (ss : List Spot) (h k : ℕ) (next : Option ℕ) → ((n : ℕ) → walk n ss ≡ Some k → walk (suc n) ss ≡ Some (suc k)) → move (opens (spot_part s)) (closes (spot_part s)) h ≡ next → option_and_then (λ n. walk n ss) next ≡ Some k → walk (suc h) (s ∷ ss) ≡ Some (suc k)
walk-more_on s ss h k None later is e = absurd (none-some k e)
walk-more_on s ss h k (Some n) later is e =
    ap (λ next. option_and_then (λ m. walk m ss) next) (move-more (opens (spot_part s)) (closes (spot_part s)) h n is) ∙ later n e

walk-more : (ss : List Spot) (h k : ℕ) → walk h ss ≡ Some k → walk (suc h) ss ≡ Some (suc k)
walk-more [] h k e = ap (λ n. Some (suc n)) (same_Some h k e)
walk-more (s ∷ ss) h k e =
    walk-more_on s ss h k (move (opens (spot_part s)) (closes (spot_part s)) h) (λ n. walk-more ss n k) refl e

pub walk-level : (ss : List Spot) (h : ℕ) → walk 0 ss ≡ Some 0 → walk h ss ≡ Some h
walk-level ss zero e = e
walk-level ss (suc h) e = walk-more ss h h (walk-level ss h e)

-- One token

walk-one : (s : Spot) (h k : ℕ) → move (opens (spot_part s)) (closes (spot_part s)) h ≡ Some k → walk h (s ∷ []) ≡ Some k
walk-one s h k e = ap (λ next. option_and_then (λ n. walk n []) next) e

move-plain : (o c : Bool) (h : ℕ) → o ≡ false → c ≡ false → move o c h ≡ Some h
move-plain o c h o_is c_is = ap (λ b. move b c h) o_is ∙ ap (λ b. move false b h) c_is

move-open : (o c : Bool) (h : ℕ) → o ≡ true → move o c h ≡ Some (suc h)
move-open o c h o_is = ap (λ b. move b c h) o_is

move-close : (o c : Bool) (h : ℕ) → o ≡ false → c ≡ true → move o c (suc h) ≡ Some h
move-close o c h o_is c_is = ap (λ b. move b c (suc h)) o_is ∙ ap (λ b. move false b (suc h)) c_is

-- Nested brackets: where they stand, the innermost first, each with a level stretch behind it

abbrev pub Nested : List Spot → List ℕ → Type 0
Nested before [] = walk 0 before ≡ Some 0
Nested before (at ∷ ats) =
    (outside : List Spot) × ((inside : List Spot) × ((b : Spot) × ((before ≡ outside ++ b ∷ inside) × ((opens (spot_part b) ≡ true) × ((b.at ≡ at) × ((walk 0 inside ≡ Some 0) × Nested outside ats))))))

walk-then : (xs ys : List Spot) (h k n : ℕ) → walk h xs ≡ Some k → walk k ys ≡ Some n → walk h (xs ++ ys) ≡ Some n
walk-then xs ys h k n first second = walk-append xs ys h ∙ (ap (option_and_then (λ m. walk m ys)) first ∙ second)

pub nested-plain : (before : List Spot) (ats : List ℕ) (s : Spot) → Nested before ats → opens (spot_part s) ≡ false → closes (spot_part s) ≡ false → Nested (before ++ s ∷ []) ats
nested-plain before [] s nested o c = walk-then before (s ∷ []) 0 0 0 nested (walk-one s 0 0 (move-plain (opens (spot_part s)) (closes (spot_part s)) 0 o c))
nested-plain before (at ∷ ats) s (outside, (inside, (b, (split, (is_open, (b_at, (level, nested))))))) o c =
    (outside, (inside ++ s ∷ [], (b, (ap (λ x. x ++ s ∷ []) split ∙ append_assoc outside (b ∷ inside) (s ∷ []), (is_open, (b_at, (walk-then inside (s ∷ []) 0 0 0 level (walk-one s 0 0 (move-plain (opens (spot_part s)) (closes (spot_part s)) 0 o c)), nested)))))))

pub nested-open : (before : List Spot) (ats : List ℕ) (s : Spot) → Nested before ats → opens (spot_part s) ≡ true → Nested (before ++ s ∷ []) (s.at ∷ ats)
nested-open before ats s nested o = (before, ([], (s, (refl, (o, (refl, (refl, nested)))))))

-- a bracket with a level stretch behind it, and its closing one
level-closed : (b s : Spot) (inside : List Spot) (h : ℕ) → opens (spot_part b) ≡ true → walk 0 inside ≡ Some 0 → opens (spot_part s) ≡ false → closes (spot_part s) ≡ true → walk h (b ∷ (inside ++ s ∷ [])) ≡ Some h
level-closed b s inside h is_open level o c =
    ap (λ next. option_and_then (λ k. walk k (inside ++ s ∷ [])) next) (move-open (opens (spot_part b)) (closes (spot_part b)) h is_open) ∙ walk-then inside (s ∷ []) (suc h) (suc h) h (walk-level inside (suc h) level) (walk-one s (suc h) h (move-close (opens (spot_part s)) (closes (spot_part s)) h o c))

pub nested-close : (before : List Spot) (at : ℕ) (ats : List ℕ) (s : Spot) → Nested before (at ∷ ats) → opens (spot_part s) ≡ false → closes (spot_part s) ≡ true → Nested (before ++ s ∷ []) ats
nested-close before at [] s (outside, (inside, (b, (split, (is_open, (b_at, (level, nested))))))) o c =
    ap (λ x. walk 0 (x ++ s ∷ [])) split ∙ (ap (walk 0) (append_assoc outside (b ∷ inside) (s ∷ [])) ∙ walk-then outside (b ∷ (inside ++ s ∷ [])) 0 0 0 nested (level-closed b s inside 0 is_open level o c))
nested-close before at (out ∷ outs) s (outside, (inside, (b, (split, (is_open, (b_at, (level, (outside2, (inside2, (b2, (split2, (is_open2, (b_at2, (level2, nested)))))))))))))) o c =
    (outside2, (inside2 ++ b ∷ (inside ++ s ∷ []), (b2, (ap (λ x. x ++ s ∷ []) split ∙ (append_assoc outside (b ∷ inside) (s ∷ []) ∙ (ap (λ x. x ++ b ∷ (inside ++ s ∷ [])) split2 ∙ append_assoc outside2 (b2 ∷ inside2) (b ∷ (inside ++ s ∷ [])))), (is_open2, (b_at2, (walk-then inside2 (b ∷ (inside ++ s ∷ [])) 0 0 0 level2 (level-closed b s inside 0 is_open level o c), nested)))))))

-- how many are open
pub walk-nested : (before : List Spot) (ats : List ℕ) → Nested before ats → walk 0 before ≡ Some (length ats)
walk-nested before [] nested = nested
walk-nested before (at ∷ ats) (outside, (inside, (b, (split, (is_open, (b_at, (level, nested))))))) =
    ap (walk 0) split ∙ (walk-then outside (b ∷ inside) 0 (length ats) (suc (length ats)) (walk-nested outside ats nested) (ap (λ next. option_and_then (λ k. walk k inside) next) (move-open (opens (spot_part b)) (closes (spot_part b)) (length ats) is_open) ∙ walk-level inside (suc (length ats)) level) ∙ ap Some (omega arith))

-- Counts

apart : (p : Part) → opens p ≡ true → closes p ≡ false
apart (number n) e = refl
apart minus e = refl
apart plus e = refl
apart (name cs) e = refl
apart (string cs) e = refl
apart open_tuple e = refl
apart close_tuple e = absurd (true≢false (sym e))
apart open_list e = refl
apart close_list e = absurd (true≢false (sym e))
apart comma e = refl
apart bar e = refl
apart dot e = refl
apart unread e = refl
apart foreign e = refl

opened-cons : (s : Spot) (ss : List Spot) (o : Bool) → opens (spot_part s) ≡ o → opened (s ∷ ss) ≡ cond o 1 0 + opened ss
opened-cons s ss o e = sum_by-cons (λ x. cond (opens (spot_part x)) 1 0) s ss ∙ ap (λ b. cond b 1 0 + opened ss) e

closed-cons : (s : Spot) (ss : List Spot) (c : Bool) → closes (spot_part s) ≡ c → closed (s ∷ ss) ≡ cond c 1 0 + closed ss
closed-cons s ss c e = sum_by-cons (λ x. cond (closes (spot_part x)) 1 0) s ss ∙ ap (λ b. cond b 1 0 + closed ss) e

move-counts : (o c : Bool) (h n : ℕ) → (o ≡ true → c ≡ false) → move o c h ≡ Some n → cond o 1 0 + h ≡ cond c 1 0 + n
move-counts true true h n only e = absurd (true≢false (only refl))
move-counts true false h n only e = omega (arith, same_Some (suc h) n e)
move-counts false true zero n only e = absurd (none-some n e)
move-counts false true (suc h) n only e = omega (arith, same_Some h n e)
move-counts false false h n only e = omega (arith, same_Some h n e)

counts_on : (s : Spot) (ss : List Spot) (h k : ℕ) (next : Option ℕ) → ((n : ℕ) → walk n ss ≡ Some k → opened ss + n ≡ closed ss + k) → move (opens (spot_part s)) (closes (spot_part s)) h ≡ next → option_and_then (λ n. walk n ss) next ≡ Some k → opened (s ∷ ss) + h ≡ closed (s ∷ ss) + k
counts_on s ss h k None later is e = absurd (none-some k e)
counts_on s ss h k (Some n) later is e =
    omega (arith, later n e, opened-cons s ss (opens (spot_part s)) refl, closed-cons s ss (closes (spot_part s)) refl, move-counts (opens (spot_part s)) (closes (spot_part s)) h n (apart (spot_part s)) is)

pub walk-counts : (ss : List Spot) (h k : ℕ) → walk h ss ≡ Some k → opened ss + h ≡ closed ss + k
walk-counts [] h k e = omega (arith, same_Some h k e)
walk-counts (s ∷ ss) h k e =
    counts_on s ss h k (move (opens (spot_part s)) (closes (spot_part s)) h) (λ n. walk-counts ss n k) refl e

-- a front of what can be walked
walk-front_on : (front back : List Spot) (h k : ℕ) (next : Option ℕ) → walk h front ≡ next → option_and_then (λ n. walk n back) next ≡ Some k → closed front ≤ opened front + h
walk-front_on front back h k None is e = absurd (none-some k e)
walk-front_on front back h k (Some n) is e = omega (arith, walk-counts front h n is)

walk-front : (front back : List Spot) (h k : ℕ) → walk h (front ++ back) ≡ Some k → closed front ≤ opened front + h
walk-front front back h k e = walk-front_on front back h k (walk h front) refl (sym (walk-append front back h) ∙ e)

-- and the way back
move-from : (o c : Bool) (h : ℕ) → cond c 1 0 ≤ cond o 1 0 + h → (o ≡ true → c ≡ false) → (n : ℕ) × ((move o c h ≡ Some n) × (cond o 1 0 + h ≡ cond c 1 0 + n))
move-from true true h le only = absurd (true≢false (only refl))
move-from true false h le only = (suc h, (refl, omega arith))
move-from false true zero le only = absurd (omega (arith, le))
move-from false true (suc h) le only = (h, (refl, omega arith))
move-from false false h le only = (h, (refl, omega arith))

pub walk-from : (ss : List Spot) (h k : ℕ) → ((front back : List Spot) → ss ≡ front ++ back → closed front ≤ opened front + h) → opened ss + h ≡ closed ss + k → walk h ss ≡ Some k
walk-from [] h k kept balanced = ap Some (omega (arith, balanced))
walk-from (s ∷ ss) h k kept balanced =
    let first : cond (closes (spot_part s)) 1 0 ≤ cond (opens (spot_part s)) 1 0 + h = omega (arith, kept (s ∷ []) ss refl, opened-cons s [] (opens (spot_part s)) refl, closed-cons s [] (closes (spot_part s)) refl) in
    let m = move-from (opens (spot_part s)) (closes (spot_part s)) h first (apart (spot_part s)) in
    ap (λ next. option_and_then (λ n. walk n ss) next) m.1.0 ∙ walk-from ss m.0 k (λ front back e. omega (arith, kept (s ∷ front) back (ap (λ x. s ∷ x) e), opened-cons s front (opens (spot_part s)) refl, closed-cons s front (closes (spot_part s)) refl, m.1.1)) (omega (arith, balanced, opened-cons s ss (opens (spot_part s)) refl, closed-cons s ss (closes (spot_part s)) refl, m.1.1))

-- The innermost open bracket

pub innermost-from_nested : (before : List Spot) (at : ℕ) (ats : List ℕ) → Nested before (at ∷ ats) → (b : Spot) × (IsInnermost before b × (b.at ≡ at))
innermost-from_nested before at ats (outside, (inside, (b, (split, (is_open, (b_at, (level, nested))))))) = (
  b,
  (
    record {
      outside = outside;
      inside = inside;
      split = split;
      is_open = is_open;
      balanced = omega (arith, walk-counts inside 0 0 level);
      kept = λ front back e. omega (arith, walk-front front back 0 0 (sym (ap (walk 0) e) ∙ level));
    },
    b_at,
  ),
)

level-from_innermost : (before : List Spot) (b : Spot) → (inner : IsInnermost before b) → walk 0 inner.inside ≡ Some 0
level-from_innermost before b inner =
    walk-from inner.inside 0 0 (λ front back e. omega (arith, inner.kept front back e)) (omega (arith, inner.balanced))

-- behind an open bracket more are open than before it
opens_on : (outside inside : List Spot) (b : Spot) (h k : ℕ) → opens (spot_part b) ≡ true → walk 0 inside ≡ Some 0 → (next : Option ℕ) → walk h outside ≡ next → option_and_then (λ n. walk n (b ∷ inside)) next ≡ Some k → (n : ℕ) × (k ≡ suc n)
opens_on outside inside b h k is_open level None is e = absurd (none-some k e)
opens_on outside inside b h k is_open level (Some n) is e =
    (n, sym (same_Some (suc n) k (sym (ap (λ next. option_and_then (λ m. walk m inside) next) (move-open (opens (spot_part b)) (closes (spot_part b)) n is_open) ∙ walk-level inside (suc n) level) ∙ e)))

opens-more : (outside inside : List Spot) (b : Spot) (h k : ℕ) → opens (spot_part b) ≡ true → walk 0 inside ≡ Some 0 → walk h (outside ++ b ∷ inside) ≡ Some k → (n : ℕ) × (k ≡ suc n)
opens-more outside inside b h k is_open level e =
    opens_on outside inside b h k is_open level (walk h outside) refl (sym (walk-append outside (b ∷ inside) h) ∙ e)

one_innermost : (o1 o2 i1 i2 : List Spot) (b1 b2 : Spot) → o1 ++ b1 ∷ i1 ≡ o2 ++ b2 ∷ i2 → opens (spot_part b1) ≡ true → opens (spot_part b2) ≡ true → walk 0 i1 ≡ Some 0 → walk 0 i2 ≡ Some 0 → b1 ≡ b2
one_innermost [] [] i1 i2 b1 b2 e open1 open2 level1 level2 = same_head b1 b2 i1 i2 e
one_innermost [] (c ∷ cs) i1 i2 b1 b2 e open1 open2 level1 level2 =
    let more = opens-more cs i2 b2 0 0 open2 level2 (sym (ap (walk 0) (same_tail b1 c i1 (cs ++ b2 ∷ i2) e)) ∙ level1) in
    absurd (omega (arith, more.1))
one_innermost (c ∷ cs) [] i1 i2 b1 b2 e open1 open2 level1 level2 =
    let more = opens-more cs i1 b1 0 0 open1 level1 (ap (walk 0) (same_tail c b2 (cs ++ b1 ∷ i1) i2 e) ∙ level2) in
    absurd (omega (arith, more.1))
one_innermost (c ∷ cs) (d ∷ ds) i1 i2 b1 b2 e open1 open2 level1 level2 =
    one_innermost cs ds i1 i2 b1 b2 (same_tail c d (cs ++ b1 ∷ i1) (ds ++ b2 ∷ i2) e) open1 open2 level1 level2

pub innermost-at : (before : List Spot) (at : ℕ) (ats : List ℕ) (b : Spot) → Nested before (at ∷ ats) → IsInnermost before b → b.at ≡ at
innermost-at before at ats b (outside, (inside, (c, (split, (is_open, (c_at, (level, nested))))))) inner =
    ap (λ s. s.at) (one_innermost inner.outside outside inner.inside inside b c (sym inner.split ∙ split) inner.is_open is_open (level-from_innermost before b inner) level) ∙ c_at

pub no_innermost : (before : List Spot) (b : Spot) → Nested before [] → IsInnermost before b → ⊥
no_innermost before b nested inner =
    let more = opens-more inner.outside inner.inside b 0 0 inner.is_open (level-from_innermost before b inner) (sym (ap (walk 0) inner.split) ∙ nested) in
    omega (arith, more.1)

-- how many more are opened than closed
pub nested-counts : (before : List Spot) (ats : List ℕ) → Nested before ats → opened before ≡ closed before + length ats
nested-counts before ats nested = omega (arith, walk-counts before 0 (length ats) (walk-nested before ats nested))
