-- What is written is read back: the bytes of a ghost value tell it, whatever stands behind them.
use Rattle.std.proofs.Common.{◌≡◌, ℕ, zero, suc, ◌+◌, ◌-◌, ◌/◌, ◌%◌, ◌^◌, ◌<◌, ◌≤◌, Bool, true, false, List, [], ◌∷◌, ◌++◌, cond, ltb, ltb-true, lt-ltb, le-ltb, ◌⊎◌, inl, inr, sym, ap, subst, ◌∙◌, refl, arith, append_assoc, w64, ℤ, pos, negsuc, ◌<ℤ◌, ◌≤ℤ◌, unsigned_abs, length, get_or, drop, Result, Ok, Err, OnOk}
use base.Stored.{Gv, gnil, gnum, gcons}
use Rattle.std.proofs.lemmas.List.{drop_more}
use Rattle.std.proofs.lemmas.Int.{ints}
use Rattle.std.specs.Int.{to_le_bytes}
use Rattle.erl_term.specs.declared.term.Term.{Term}
use Rattle.erl_term.specs.Term as term
use Rattle.erl_term.specs.Tree.{Tree, int, atom, pid, tuple, list, depth, greatest_depth}
use Rattle.erl_term.specs.TreeCode.{tree_code, chars_code}
use Rattle.erl_ir.specs.Pattern as pattern
use Rattle.erl_ir.specs.Pattern.{Pat, Pats}
use Rattle.erl_ir.specs.PatternCode.{pat_code, pats_code}
use Rattle.erl_ir.specs.Expression as expression
use Rattle.erl_ir.specs.Expression.{Expr, Exprs, Guards}
use Rattle.erl_ir.specs.FormsCode.{expr_code, exprs_code, guards_code}
use Rattle.erl_ir.specs.ModuleBytes.{digits, number, pair, flat, written}

-- the first byte
abbrev lead : List ℕ → ℕ
lead [] = 0
lead (b ∷ bs) = b

abbrev rest : List ℕ → List ℕ
rest [] = []
rest (b ∷ bs) = bs

digits-same : (m n : ℕ) (r s : List ℕ) → digits m r ≡ digits n s → (m ≡ n) × (r ≡ s)
digits-same m n r s same =
    let a : m % 256 ≡ n % 256 = ap lead same in
    let b : m / 2 ^ 8 % 256 ≡ n / 2 ^ 8 % 256 = ap (λ l. lead (rest l)) same in
    let c : m / 2 ^ 16 % 256 ≡ n / 2 ^ 16 % 256 = ap (λ l. lead (rest (rest l))) same in
    let d : m / 2 ^ 24 % 256 ≡ n / 2 ^ 24 % 256 = ap (λ l. lead (rest (rest (rest l)))) same in
    let e : m / 2 ^ 32 % 256 ≡ n / 2 ^ 32 % 256 = ap (λ l. lead (rest (rest (rest (rest l))))) same in
    let f : m / 2 ^ 40 % 256 ≡ n / 2 ^ 40 % 256 = ap (λ l. lead (rest (rest (rest (rest (rest l)))))) same in
    let g : m / 2 ^ 48 % 256 ≡ n / 2 ^ 48 % 256 = ap (λ l. lead (rest (rest (rest (rest (rest (rest l))))))) same in
    let h : m / 2 ^ 56 ≡ n / 2 ^ 56 = ap (λ l. lead (rest (rest (rest (rest (rest (rest (rest l)))))))) same in
    (omega arith, ap (λ l. rest (rest (rest (rest (rest (rest (rest (rest l)))))))) same)

-- a number's bytes: the small number's one, or the digits behind 127
number-cases : (n : ℕ) (r : List ℕ) → ((n < 125) × (number n r ≡ (n + 2) ∷ r)) ⊎ (number n r ≡ 127 ∷ digits n r)
number-cases n r = by (ltb n 125) refl
  where
    by : (b : Bool) → ltb n 125 ≡ b → ((n < 125) × (number n r ≡ (n + 2) ∷ r)) ⊎ (number n r ≡ 127 ∷ digits n r)
    by true is = inl (ltb-true n 125 is, ap (λ b. cond b ((n + 2) ∷ r) (127 ∷ digits n r)) is)
    by false is = inr (ap (λ b. cond b ((n + 2) ∷ r) (127 ∷ digits n r)) is)

number-same : (m n : ℕ) (r s : List ℕ) → number m r ≡ number n s → (m ≡ n) × (r ≡ s)
number-same m n r s same = by (number-cases m r) (number-cases n s)
  where
    by : ((m < 125) × (number m r ≡ (m + 2) ∷ r)) ⊎ (number m r ≡ 127 ∷ digits m r) →
        ((n < 125) × (number n s ≡ (n + 2) ∷ s)) ⊎ (number n s ≡ 127 ∷ digits n s) → (m ≡ n) × (r ≡ s)
    by (inl a) (inl b) = let whole = sym a.1 ∙ same ∙ b.1 in let first : m + 2 ≡ n + 2 = ap lead whole in (omega arith, ap rest whole)
    by (inl a) (inr b) = let first : m + 2 ≡ 127 = ap lead (sym a.1 ∙ same ∙ b) in let small = a.0 in absurd (omega arith)
    by (inr a) (inl b) = let first : 127 ≡ n + 2 = ap lead (sym a ∙ same ∙ b.1) in let small = b.0 in absurd (omega arith)
    by (inr a) (inr b) = digits-same m n r s (ap rest (sym a ∙ same ∙ b))

-- a pair's bytes: the small number's one and those behind, or those of both behind 1
pair-cases : (a : Gv) (back both : List ℕ) → ((n : ℕ) × (a ≡ gnum n) × (pair a back both ≡ (n + 128) ∷ back)) ⊎ (pair a back both ≡ 1 ∷ both)
pair-cases gnil back both = inr refl
pair-cases (gcons a b) back both = inr refl
pair-cases (gnum n) back both = by (ltb n 128) refl
  where
    by : (b : Bool) → ltb n 128 ≡ b →
        ((m : ℕ) × (gnum n ≡ gnum m) × (pair (gnum n) back both ≡ (m + 128) ∷ back)) ⊎ (pair (gnum n) back both ≡ 1 ∷ both)
    by true is = inl (n, refl, ap (λ b. cond b ((n + 128) ∷ back) (1 ∷ both)) is)
    by false is = inr (ap (λ b. cond b ((n + 128) ∷ back) (1 ∷ both)) is)

number-lead : (n : ℕ) (r : List ℕ) → (2 ≤ lead (number n r)) × (lead (number n r) ≤ 127)
number-lead n r = by (number-cases n r)
  where
    by : ((n < 125) × (number n r ≡ (n + 2) ∷ r)) ⊎ (number n r ≡ 127 ∷ digits n r) → (2 ≤ lead (number n r)) × (lead (number n r) ≤ 127)
    by (inl a) = let first : lead (number n r) ≡ n + 2 = ap lead a.1 in let small = a.0 in (omega arith, omega arith)
    by (inr a) = let first : lead (number n r) ≡ 127 = ap lead a in (omega arith, omega arith)

pair-lead : (a : Gv) (back both : List ℕ) → (lead (pair a back both) ≡ 1) ⊎ (128 ≤ lead (pair a back both))
pair-lead a back both = by (pair-cases a back both)
  where
    by : ((n : ℕ) × (a ≡ gnum n) × (pair a back both ≡ (n + 128) ∷ back)) ⊎ (pair a back both ≡ 1 ∷ both) →
        (lead (pair a back both) ≡ 1) ⊎ (128 ≤ lead (pair a back both))
    by (inl (n, is, whole)) = let first : lead (pair a back both) ≡ n + 128 = ap lead whole in inr (omega arith)
    by (inr whole) = inl (ap lead whole)

pairs-same : (a b c d : Gv) (r s : List ℕ) → flat (gcons a b) r ≡ flat (gcons c d) s →
    (flat b r ≡ flat d s → (b ≡ d) × (r ≡ s)) →
    (flat a (flat b r) ≡ flat c (flat d s) → (a ≡ c) × (flat b r ≡ flat d s)) → (gcons a b ≡ gcons c d) × (r ≡ s)
pairs-same a b c d r s same backs both =
    by (pair-cases a (flat b r) (flat a (flat b r))) (pair-cases c (flat d s) (flat c (flat d s)))
  where
    by : ((n : ℕ) × (a ≡ gnum n) × (flat (gcons a b) r ≡ (n + 128) ∷ flat b r)) ⊎ (flat (gcons a b) r ≡ 1 ∷ flat a (flat b r)) →
        ((n : ℕ) × (c ≡ gnum n) × (flat (gcons c d) s ≡ (n + 128) ∷ flat d s)) ⊎ (flat (gcons c d) s ≡ 1 ∷ flat c (flat d s)) →
        (gcons a b ≡ gcons c d) × (r ≡ s)
    by (inl (m, isa, one)) (inl (n, isc, other)) =
        let whole = sym one ∙ same ∙ other in
        let first : m + 128 ≡ n + 128 = ap lead whole in
        let numbers : m ≡ n = omega arith in
        let fronts : a ≡ c = isa ∙ ap gnum numbers ∙ sym isc in
        let behind = backs (ap rest whole) in
        (λ i. gcons (fronts i) (behind.0 i), behind.1)
    by (inl (m, isa, one)) (inr other) = let first : m + 128 ≡ 1 = ap lead (sym one ∙ same ∙ other) in absurd (omega arith)
    by (inr one) (inl (n, isc, other)) = let first : 1 ≡ n + 128 = ap lead (sym one ∙ same ∙ other) in absurd (omega arith)
    by (inr one) (inr other) =
        let fronts = both (ap rest (sym one ∙ same ∙ other)) in
        let behind = backs fronts.1 in
        (λ i. gcons (fronts.0 i) (behind.0 i), behind.1)

pub flat-same : (a b : Gv) (r s : List ℕ) → flat a r ≡ flat b s → (a ≡ b) × (r ≡ s)
flat-same gnil gnil r s same = (refl, ap rest same)
flat-same (gnum m) (gnum n) r s same = let both = number-same m n r s same in (ap gnum both.0, both.1)
flat-same (gcons a b) (gcons c d) r s same =
    pairs-same a b c d r s same (λ e. flat-same b d r s e) (λ e. flat-same a c (flat b r) (flat d s) e)
flat-same gnil (gnum n) r s same = let low = number-lead n s in let first : 0 ≡ lead (number n s) = ap lead same in absurd (omega arith)
flat-same (gnum n) gnil r s same = let low = number-lead n r in let first : lead (number n r) ≡ 0 = ap lead same in absurd (omega arith)
flat-same gnil (gcons a b) r s same =
    let high = pair-lead a (flat b s) (flat a (flat b s)) in let first : 0 ≡ lead (flat (gcons a b) s) = ap lead same in absurd (omega arith)
flat-same (gcons a b) gnil r s same =
    let high = pair-lead a (flat b r) (flat a (flat b r)) in let first : lead (flat (gcons a b) r) ≡ 0 = ap lead same in absurd (omega arith)
flat-same (gnum n) (gcons a b) r s same =
    let high = pair-lead a (flat b s) (flat a (flat b s)) in let low = number-lead n r in
    let first : lead (number n r) ≡ lead (flat (gcons a b) s) = ap lead same in absurd (omega arith)
flat-same (gcons a b) (gnum n) r s same =
    let high = pair-lead a (flat b r) (flat a (flat b r)) in let low = number-lead n s in
    let first : lead (flat (gcons a b) r) ≡ lead (number n s) = ap lead same in absurd (omega arith)

-- What is written behind other bytes

append_number : (n : ℕ) (r s : List ℕ) → number n (r ++ s) ≡ number n r ++ s
append_number n r s = by (ltb n 125)
  where
    by : (b : Bool) → cond b ((n + 2) ∷ (r ++ s)) (127 ∷ digits n (r ++ s)) ≡ cond b ((n + 2) ∷ r) (127 ∷ digits n r) ++ s
    by true = refl
    by false = refl

append_pair : (a : Gv) (back both s : List ℕ) → pair a (back ++ s) (both ++ s) ≡ pair a back both ++ s
append_pair gnil back both s = refl
append_pair (gcons a b) back both s = refl
append_pair (gnum n) back both s = by (ltb n 128)
  where
    by : (b : Bool) → cond b ((n + 128) ∷ (back ++ s)) (1 ∷ (both ++ s)) ≡ cond b ((n + 128) ∷ back) (1 ∷ both) ++ s
    by true = refl
    by false = refl

append_flat : (a : Gv) (r s : List ℕ) → flat a (r ++ s) ≡ flat a r ++ s
append_flat gnil r s = refl
append_flat (gnum n) r s = append_number n r s
append_flat (gcons a b) r s =
    let back = append_flat b r s in
    let both = ap (flat a) back ∙ append_flat a (flat b r) s in
    (λ i. pair a (back i) (both i)) ∙ append_pair a (flat b r) (flat a (flat b r)) s

behind_flat : (a : Gv) (r : List ℕ) → flat a r ≡ flat a [] ++ r
behind_flat a r = append_flat a [] r

-- of a ghost value that is no number
abbrev pub IsNoNumber : Gv → Type 0
IsNoNumber gnil = Unit {0}
IsNoNumber (gnum n) = ⊥
IsNoNumber (gcons a b) = Unit {0}

pub written-nil : (out : List ℕ) → written gnil out ≡ out ++ 0 ∷ []
unfolding written
written-nil out = refl

pub written-number : (n : ℕ) (out : List ℕ) → written (gnum n) out ≡ out ++ number n []
unfolding written
written-number n out = refl

pub written-small : (n : ℕ) (g : Gv) (out : List ℕ) → n < 128 → written (gcons (gnum n) g) out ≡ written g (out ++ (n + 128) ∷ [])
unfolding written
written-small n g out small =
    let is : ltb n 128 ≡ true = lt-ltb n 128 small in
    ap (λ b. out ++ cond b ((n + 128) ∷ flat g []) (1 ∷ flat (gnum n) (flat g []))) is ∙ sym (append_assoc out ((n + 128) ∷ []) (flat g []))

pub written-large : (n : ℕ) (g : Gv) (out : List ℕ) → 128 ≤ n → written (gcons (gnum n) g) out ≡ written g (written (gnum n) (out ++ 1 ∷ []))
unfolding written
written-large n g out large =
    let is : ltb n 128 ≡ false = le-ltb n 128 large in
    ap (λ b. out ++ cond b ((n + 128) ∷ flat g []) (1 ∷ flat (gnum n) (flat g []))) is ∙
    ap (λ l. out ++ 1 ∷ l) (behind_flat (gnum n) (flat g [])) ∙
    sym (append_assoc (out ++ 1 ∷ []) (flat (gnum n) []) (flat g []) ∙ append_assoc out (1 ∷ []) (flat (gnum n) [] ++ flat g []))

pub written-pair : (a g : Gv) (out : List ℕ) → IsNoNumber a → written (gcons a g) out ≡ written g (written a (out ++ 1 ∷ []))
unfolding written
written-pair gnil g out is =
    sym (append_assoc (out ++ 1 ∷ []) (0 ∷ []) (flat g []) ∙ append_assoc out (1 ∷ []) (0 ∷ flat g []))
written-pair (gnum n) g out is = absurd is
written-pair (gcons a b) g out is =
    let it = gcons a b in
    ap (λ l. out ++ 1 ∷ l) (behind_flat it (flat g [])) ∙
    sym (append_assoc (out ++ 1 ∷ []) (flat it []) (flat g []) ∙ append_assoc out (1 ∷ []) (flat it [] ++ flat g []))

pub written-same : (a b : Gv) → written a [] ≡ written b [] → a ≡ b
unfolding written
written-same a b same = (flat-same a b [] [] same).0

-- What has parts

pub tree-parts : (t : Tree) → IsNoNumber (tree_code t)
tree-parts (int (pos n)) = tt
tree-parts (int (negsuc n)) = tt
tree-parts (atom cs) = tt
tree-parts (pid n) = tt
tree-parts (tuple ts) = tt
tree-parts (list ts) = tt

pub chars-parts : (cs : List ℕ) → IsNoNumber (chars_code cs)
chars-parts [] = tt
chars-parts (c ∷ cs) = tt

pub pat-parts : (p : Pat) → IsNoNumber (pat_code p)
pat-parts (pattern.literal t) = tt
pat-parts (pattern.variable index) = tt
pat-parts pattern.anything = tt
pat-parts (pattern.tuple ps) = tt
pat-parts (pattern.list ps) = tt
pat-parts (pattern.cons ps) = tt
pat-parts (pattern.alias ps) = tt

pub pats-parts : (ps : Pats) → IsNoNumber (pats_code ps)
pats-parts pattern.none = tt
pats-parts (pattern.more p ps) = tt

pub expr-parts : (e : Expr) → IsNoNumber (expr_code e)
expr-parts (expression.literal t) = tt
expr-parts (expression.variable index) = tt
expr-parts (expression.apply op es) = tt
expr-parts (expression.match p es) = tt
expr-parts (expression.block es) = tt
expr-parts (expression.case es cs) = tt
expr-parts (expression.short_circuit c es fs) = tt

pub exprs-parts : (es : Exprs) → IsNoNumber (exprs_code es)
exprs-parts expression.none = tt
exprs-parts (expression.more e es) = tt

pub guards-parts : (gs : Guards) → IsNoNumber (guards_code gs)
guards-parts expression.no_guards = tt
guards-parts (expression.guard e gs) = tt

-- Parts that are written one after the other

-- a small number in front
pub front_is : (k : ℕ) (g : Gv) (old mid : List ℕ) → k < 128 → mid ≡ old ++ (k + 128) ∷ [] → written g mid ≡ written (gcons (gnum k) g) old
front_is k g old mid small first = ap (written g) first ∙ sym (written-small k g old small)

-- any other front
pub both_is : (a g : Gv) (old one two : List ℕ) → IsNoNumber a → one ≡ old ++ 1 ∷ [] → two ≡ written a one →
    written g two ≡ written (gcons a g) old
both_is a g old one two parts first second = ap (written g) (second ∙ ap (written a) first) ∙ sym (written-pair a g old parts)

pub like : (a b : Gv) (old : List ℕ) → a ≡ b → written a old ≡ written b old
like a b old same = ap (λ w. written w old) same

-- what is written last, by a call that may be refused memory
pub last : {E : Type 0} (r : Result (Unit {0}) E) (a b : Gv) (new mid old : List ℕ) → written a mid ≡ written b old →
    OnOk r (new ≡ written a mid) → OnOk r (new ≡ written b old)
last (Ok u) a b new mid old same done = done ∙ same
last (Err e) a b new mid old same done = tt

pub on_ok : {E : Type 0} (r : Result (Unit {0}) E) (a b d : List ℕ) → b ≡ d → OnOk r (a ≡ b) → OnOk r (a ≡ d)
on_ok (Ok u) a b d same done = done ∙ same
on_ok (Err e) a b d same done = tt

pub last_front : {E : Type 0} (r : Result (Unit {0}) E) (o a : Gv) (new mid old : List ℕ) →
    ((g : Gv) → written g (written a mid) ≡ written (gcons o g) old) →
    OnOk r (new ≡ written a mid) → OnOk r ((g : Gv) → written (gcons o g) old ≡ written g new)
last_front (Ok u) o a new mid old same done = λ g. sym (ap (written g) done ∙ same g)
last_front (Err e) o a new mid old same done = tt

-- the end of a row of which nothing is left
pub row_end : (whole : Gv) (old new all : List ℕ) → whole ≡ gnil → written whole old ≡ all → new ≡ old ++ 0 ∷ [] → new ≡ all
row_end whole old new all is so_far last = last ∙ sym (written-nil old) ∙ sym (like whole gnil old is) ∙ so_far

pub left : {A : Type 0} (xs : List A) (i : ℕ) (x : A) → i < length xs → x ≡ get_or xs i x → drop i xs ≡ x ∷ drop (i + 1) xs
left xs i x within is = drop_more xs i x within ∙ ap (λ y. y ∷ drop (i + 1) xs) (sym is)

-- a large number
pub large : (n : ℕ) (old mid new bytes : List ℕ) → 125 ≤ n → n < 2 ^ 64 → mid ≡ old ++ 127 ∷ [] → bytes ≡ to_le_bytes w64 n →
    new ≡ mid ++ bytes → new ≡ written (gnum n) old
large n old mid new bytes big fits first digits_are second =
    let top : n / 2 ^ 56 % 256 ≡ n / 2 ^ 56 = omega arith in
    let digits_is : to_le_bytes w64 n ≡ digits n [] = ap (λ d. (n % 256) ∷ (n / 2 ^ 8 % 256) ∷ (n / 2 ^ 16 % 256) ∷ (n / 2 ^ 24 % 256) ∷
    (n / 2 ^ 32 % 256) ∷ (n / 2 ^ 40 % 256) ∷ (n / 2 ^ 48 % 256) ∷ d ∷ []) top in
    let number_is : number n [] ≡ 127 ∷ digits n [] = ap (λ b. cond b ((n + 2) ∷ []) (127 ∷ digits n [])) (le-ltb n 125 big) in
    second ∙ (λ i. first i ++ (digits_are ∙ digits_is) i) ∙ append_assoc old (127 ∷ []) (digits n []) ∙
    ap (λ l. old ++ l) (sym number_is) ∙ sym (written-number n old)

pub little : (n : ℕ) (old new : List ℕ) → n < 125 → new ≡ old ++ (n + 2) ∷ [] → new ≡ written (gnum n) old
little n old new small first =
    first ∙ ap (λ l. old ++ l) (sym (ap (λ b. cond b ((n + 2) ∷ []) (127 ∷ digits n [])) (lt-ltb n 125 small))) ∙ sym (written-number n old)

-- integers
pub below_zero : (n : ℤ) (size : ℕ) → n <ℤ pos 0 → size ≡ unsigned_abs n → gcons (gnum 1) (gnum (size - 1)) ≡ tree_code (int n)
below_zero (pos m) size low is = absurd (omega (arith, ints))
below_zero (negsuc m) size low is = let less : size - 1 ≡ m = omega arith in ap (λ k. gcons (gnum 1) (gnum k)) less

pub from_zero : (n : ℤ) (size : ℕ) → pos 0 ≤ℤ n → size ≡ unsigned_abs n → gcons (gnum 0) (gnum size) ≡ tree_code (int n)
from_zero (pos m) size high is = ap (λ k. gcons (gnum 0) (gnum k)) is
from_zero (negsuc m) size high is = absurd (omega (arith, ints))

-- terms of a row
term_at : (items : List Term) (i : ℕ) (t : Term) → i < length items → depth (term.tree (get_or items i t)) ≤ greatest_depth (term.trees items)
term_at [] i t within = absurd (omega arith)
term_at (u ∷ us) zero t within = omega arith
term_at (u ∷ us) (suc i) t within = omega (arith, term_at us i t (omega arith))

pub term_in : (items : List Term) (i : ℕ) (t : Term) → i < length items → t ≡ get_or items i t →
    depth (term.tree t) ≤ greatest_depth (term.trees items)
term_in items i t within is =
    subst (λ u. depth (term.tree u) ≤ greatest_depth (term.trees items)) (sym is) (term_at items i t within)
