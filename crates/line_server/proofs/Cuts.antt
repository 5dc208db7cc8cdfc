-- Lemmas on lines: what more bytes do to the whole lines and to the rest.
use Rattle.std.proofs.Common.{◌≡◌, get_or, ℕ, zero, suc, ◌+◌, ◌-◌, ◌<◌, ◌≤◌, Bool, true, false, cond, eqb, ◌||◌, List, [], ◌∷◌, ◌++◌, length, take, drop, All, refl, sym, ap, ◌∙◌, append_assoc, append-nil, arith}
use Rattle.std.proofs.lemmas.Bool.{cond-true, cond-false, eqb-true}
use Rattle.std.proofs.lemmas.List.{take-append-drop, take_all, take_rest, drop_all, drop_more}
use Rattle.std.proofs.lemmas.List.Folds.{list_any-append}
use Rattle.std.proofs.lemmas.List.Elements.{All-nil, All-cons, All-head, All-tail}
use Rattle.line_server.specs.Lines.{begun, whole_lines, rest_of, closed, has_newline}

-- Bytes without a newline

whole_lines-none_step : (b : ℕ) (bs : List ℕ) (p : Bool) → (has_newline bs ≡ false → whole_lines bs ≡ []) → (p || has_newline bs) ≡ false → cond p ([] ∷ whole_lines bs) (begun b (whole_lines bs)) ≡ []
whole_lines-none_step b bs true hyp none = absurd (let no : ⊥ = cc in no)
whole_lines-none_step b bs false hyp none = ap (begun b) (hyp none)

pub whole_lines-none : (bs : List ℕ) → has_newline bs ≡ false → whole_lines bs ≡ []
whole_lines-none [] none = refl
whole_lines-none (b ∷ bs) none = whole_lines-none_step b bs (eqb b 10) (whole_lines-none bs) none

pub rest_of-none : (bs : List ℕ) → has_newline bs ≡ false → rest_of bs ≡ bs
rest_of-none [] none = refl
rest_of-none (b ∷ bs) none = cond-false (has_newline (b ∷ bs)) (rest_of bs) (b ∷ bs) none

rest_of-clean_step : (bs cs : List ℕ) (p : Bool) → has_newline cs ≡ p → has_newline bs ≡ false → has_newline (cond p bs cs) ≡ false
rest_of-clean_step bs cs true is none = none
rest_of-clean_step bs cs false is none = is

-- the rest has no newline
pub rest_of-clean : (bs : List ℕ) → has_newline (rest_of bs) ≡ false
rest_of-clean [] = refl
rest_of-clean (b ∷ bs) = rest_of-clean_step (rest_of bs) (b ∷ bs) (has_newline (b ∷ bs)) refl (rest_of-clean bs)

-- Bytes with a newline

whole_lines-some_step : (b : ℕ) (bs : List ℕ) (p : Bool) → (has_newline bs ≡ true → (l : List ℕ) × (ls : List (List ℕ)) × (whole_lines bs ≡ l ∷ ls)) → (p || has_newline bs) ≡ true → (l : List ℕ) × (ls : List (List ℕ)) × (cond p ([] ∷ whole_lines bs) (begun b (whole_lines bs)) ≡ l ∷ ls)
whole_lines-some_step b bs true hyp some = ([], whole_lines bs, refl)
whole_lines-some_step b bs false hyp some =
    let lines = hyp some in (b ∷ lines.0, lines.1, ap (begun b) lines.2)

pub whole_lines-some : (bs : List ℕ) → has_newline bs ≡ true → (l : List ℕ) × (ls : List (List ℕ)) × (whole_lines bs ≡ l ∷ ls)
whole_lines-some [] some = absurd (let no : ⊥ = cc in no)
whole_lines-some (b ∷ bs) some = whole_lines-some_step b bs (eqb b 10) (whole_lines-some bs) some

-- no newline stands before a place
no_newline_step : (b : ℕ) (bs : List ℕ) (n : ℕ) (p : Bool) → eqb b 10 ≡ p → ¬ (eqb b 10 ≡ true) → has_newline bs ≡ false → (p || has_newline bs) ≡ false
no_newline_step b bs n true is other none = absurd (other is)
no_newline_step b bs n false is other none = none

pub none_before : (chunk : List ℕ) (n : ℕ) → ((k : ℕ) → 0 ≤ k → k < n → k < length chunk → ¬ (eqb (get_or chunk k 0) 10 ≡ true)) → has_newline (take n chunk) ≡ false
none_before [] zero before = refl
none_before [] (suc n) before = refl
none_before (b ∷ bs) zero before = refl
none_before (b ∷ bs) (suc n) before =
    no_newline_step b (take n bs) n (eqb b 10) refl (before 0 (omega arith) (omega arith) (omega arith)) (none_before bs n (λ k from below within. before (suc k) (omega arith) (omega arith) (omega arith)))

-- The law: the lines and the rest are the bytes

closed-begun : (b : ℕ) (l : List ℕ) (ls lines : List (List ℕ)) → lines ≡ l ∷ ls → closed (begun b lines) ≡ b ∷ closed lines
closed-begun b l ls lines is = rw is refl

law_step : (b : ℕ) (bs : List ℕ) (p q : Bool) → eqb b 10 ≡ p → has_newline bs ≡ q → closed (whole_lines bs) ++ rest_of bs ≡ bs → closed (cond p ([] ∷ whole_lines bs) (begun b (whole_lines bs))) ++ cond (p || q) (rest_of bs) (b ∷ bs) ≡ b ∷ bs
law_step b bs true q newline some hyp =
    ap (λ cs. 10 ∷ cs) hyp ∙ ap (λ (c : ℕ). c ∷ bs) (sym (eqb-true b 10 newline))
law_step b bs false true newline some hyp =
    let lines = whole_lines-some bs some in
    ap (λ cs. cs ++ rest_of bs) (closed-begun b lines.0 lines.1 (whole_lines bs) lines.2) ∙ ap (λ cs. b ∷ cs) hyp
law_step b bs false false newline some hyp =
    ap (λ (ls : List (List ℕ)). closed (begun b ls) ++ b ∷ bs) (whole_lines-none bs some)

pub closed-whole_lines : (bs : List ℕ) → closed (whole_lines bs) ++ rest_of bs ≡ bs
closed-whole_lines [] = refl
closed-whole_lines (b ∷ bs) = law_step b bs (eqb b 10) (has_newline bs) refl refl (closed-whole_lines bs)

or-none : (p q : Bool) → p ≡ false → q ≡ false → (p || q) ≡ false
or-none p q none more = rw none more

-- no newline stands in a line
lines_clean_step : (b : ℕ) (bs : List ℕ) (p : Bool) → eqb b 10 ≡ p → All (λ line. has_newline line ≡ false) (whole_lines bs) → All (λ line. has_newline line ≡ false) (cond p ([] ∷ whole_lines bs) (begun b (whole_lines bs)))
lines_clean_step b bs true newline clean = All-cons (λ line. has_newline line ≡ false) [] (whole_lines bs) refl clean
lines_clean_step b bs false newline clean = begun_clean (whole_lines bs) clean
  where
    begun_clean : (lines : List (List ℕ)) → All (λ line. has_newline line ≡ false) lines → All (λ line. has_newline line ≡ false) (begun b lines)
    begun_clean [] clean = clean
    begun_clean (l ∷ ls) clean =
        All-cons (λ line. has_newline line ≡ false) (b ∷ l) ls (or-none (eqb b 10) (has_newline l) newline (All-head (λ line. has_newline line ≡ false) l ls clean)) (All-tail (λ line. has_newline line ≡ false) l ls clean)

pub whole_lines-clean : (bs : List ℕ) → All (λ line. has_newline line ≡ false) (whole_lines bs)
whole_lines-clean [] = All-nil (λ line. has_newline line ≡ false)
whole_lines-clean (b ∷ bs) = lines_clean_step b bs (eqb b 10) refl (whole_lines-clean bs)

-- More bytes

begun-append : (b : ℕ) (l : List ℕ) (ls lines more : List (List ℕ)) → lines ≡ l ∷ ls → begun b (lines ++ more) ≡ begun b lines ++ more
begun-append b l ls lines more is = rw is refl

whole_lines-append_step : (b : ℕ) (bs cs : List ℕ) (p q : Bool) → eqb b 10 ≡ p → has_newline bs ≡ q → whole_lines (bs ++ cs) ≡ whole_lines bs ++ whole_lines (rest_of bs ++ cs) → cond p ([] ∷ whole_lines (bs ++ cs)) (begun b (whole_lines (bs ++ cs))) ≡ cond p ([] ∷ whole_lines bs) (begun b (whole_lines bs)) ++ whole_lines (cond (p || q) (rest_of bs) (b ∷ bs) ++ cs)
whole_lines-append_step b bs cs true q newline some hyp = ap (λ ls. [] ∷ ls) hyp
whole_lines-append_step b bs cs false true newline some hyp =
    let lines = whole_lines-some bs some in
    ap (begun b) hyp ∙ begun-append b lines.0 lines.1 (whole_lines bs) (whole_lines (rest_of bs ++ cs)) lines.2
whole_lines-append_step b bs cs false false newline some hyp =
    sym (ap (λ (ls : List (List ℕ)). begun b ls ++ whole_lines (b ∷ (bs ++ cs))) (whole_lines-none bs some) ∙ cond-false (eqb b 10) ([] ∷ whole_lines (bs ++ cs)) (begun b (whole_lines (bs ++ cs))) newline)

pub whole_lines-append : (bs cs : List ℕ) → whole_lines (bs ++ cs) ≡ whole_lines bs ++ whole_lines (rest_of bs ++ cs)
whole_lines-append [] cs = refl
whole_lines-append (b ∷ bs) cs =
    whole_lines-append_step b bs cs (eqb b 10) (has_newline bs) refl refl (whole_lines-append bs cs)

or-left : (p q : Bool) → p ≡ true → (p || q) ≡ true
or-left p q is = rw is refl

or-right : (p q : Bool) → q ≡ true → (p || q) ≡ true
or-right true q is = refl
or-right false q is = is

has_newline-append : (bs cs : List ℕ) → has_newline bs ≡ false → has_newline cs ≡ false → has_newline (bs ++ cs) ≡ false
has_newline-append bs cs none more =
    list_any-append (λ b. eqb b 10) bs cs ∙ or-none (has_newline bs) (has_newline cs) none more

rest_of-append_step : (b : ℕ) (bs cs : List ℕ) (p : Bool) → has_newline (b ∷ bs) ≡ p → rest_of (bs ++ cs) ≡ rest_of (rest_of bs ++ cs) → rest_of (b ∷ (bs ++ cs)) ≡ rest_of (cond p (rest_of bs) (b ∷ bs) ++ cs)
rest_of-append_step b bs cs true some hyp =
    let still = list_any-append (λ c. eqb c 10) (b ∷ bs) cs ∙ or-left (has_newline (b ∷ bs)) (has_newline cs) some in
    cond-true (has_newline (b ∷ (bs ++ cs))) (rest_of (bs ++ cs)) (b ∷ (bs ++ cs)) still ∙ hyp
rest_of-append_step b bs cs false some hyp = refl

pub rest_of-append : (bs cs : List ℕ) → rest_of (bs ++ cs) ≡ rest_of (rest_of bs ++ cs)
rest_of-append [] cs = refl
rest_of-append (b ∷ bs) cs = rest_of-append_step b bs cs (has_newline (b ∷ bs)) refl (rest_of-append bs cs)

-- a piece without a newline
pub whole_lines-piece : (bs piece : List ℕ) → has_newline piece ≡ false → whole_lines (bs ++ piece) ≡ whole_lines bs
whole_lines-piece bs piece none =
    whole_lines-append bs piece ∙ ap (λ ls. whole_lines bs ++ ls) (whole_lines-none (rest_of bs ++ piece) (has_newline-append (rest_of bs) piece (rest_of-clean bs) none)) ∙ append-nil (whole_lines bs)

pub rest_of-piece : (bs piece : List ℕ) → has_newline piece ≡ false → rest_of (bs ++ piece) ≡ rest_of bs ++ piece
rest_of-piece bs piece none =
    rest_of-append bs piece ∙ rest_of-none (rest_of bs ++ piece) (has_newline-append (rest_of bs) piece (rest_of-clean bs) none)

-- a newline
whole_lines-first_step : (b : ℕ) (bs : List ℕ) (p : Bool) → (has_newline bs ≡ false → whole_lines (bs ++ 10 ∷ []) ≡ bs ∷ []) → (p || has_newline bs) ≡ false → cond p ([] ∷ whole_lines (bs ++ 10 ∷ [])) (begun b (whole_lines (bs ++ 10 ∷ []))) ≡ (b ∷ bs) ∷ []
whole_lines-first_step b bs true hyp none = absurd (let no : ⊥ = cc in no)
whole_lines-first_step b bs false hyp none = ap (begun b) (hyp none)

whole_lines-first : (bs : List ℕ) → has_newline bs ≡ false → whole_lines (bs ++ 10 ∷ []) ≡ bs ∷ []
whole_lines-first [] none = refl
whole_lines-first (b ∷ bs) none = whole_lines-first_step b bs (eqb b 10) (whole_lines-first bs) none

pub whole_lines-newline : (bs : List ℕ) → whole_lines (bs ++ 10 ∷ []) ≡ whole_lines bs ++ rest_of bs ∷ []
whole_lines-newline bs =
    whole_lines-append bs (10 ∷ []) ∙ ap (λ ls. whole_lines bs ++ ls) (whole_lines-first (rest_of bs) (rest_of-clean bs))

pub rest_of-newline : (bs : List ℕ) → rest_of (bs ++ 10 ∷ []) ≡ []
rest_of-newline [] = refl
rest_of-newline (b ∷ bs) =
    let some = or-right (eqb b 10) (has_newline (bs ++ 10 ∷ [])) (list_any-append (λ c. eqb c 10) bs (10 ∷ []) ∙ or-right (has_newline bs) true refl) in
    cond-true (has_newline (b ∷ (bs ++ 10 ∷ []))) (rest_of (bs ++ 10 ∷ [])) (b ∷ (bs ++ 10 ∷ [])) some ∙ rest_of-newline bs

-- a line's end, and its newline
pub whole_lines-ended : (bs end : List ℕ) → has_newline end ≡ false → whole_lines (bs ++ (end ++ 10 ∷ [])) ≡ whole_lines bs ++ (rest_of bs ++ end) ∷ []
whole_lines-ended bs end none =
    ap whole_lines (sym (append_assoc bs end (10 ∷ []))) ∙ whole_lines-newline (bs ++ end) ∙ ap (λ ls. ls ++ rest_of (bs ++ end) ∷ []) (whole_lines-piece bs end none) ∙ ap (λ line. whole_lines bs ++ line ∷ []) (rest_of-piece bs end none)

pub rest_of-ended : (bs end : List ℕ) → rest_of (bs ++ (end ++ 10 ∷ [])) ≡ []
rest_of-ended bs end = ap rest_of (sym (append_assoc bs end (10 ∷ []))) ∙ rest_of-newline (bs ++ end)

-- the first newline of a chunk ends a line
pub parted_at-newline : (chunk : List ℕ) (n : ℕ) → n < length chunk → eqb (get_or chunk n 0) 10 ≡ true → chunk ≡ (take n chunk ++ 10 ∷ []) ++ take (length chunk - (n + 1)) (drop (n + 1) chunk)
parted_at-newline chunk n within newline =
    sym (take-append-drop n chunk) ∙ ap (λ cs. take n chunk ++ cs) (drop_more chunk n 0 within ∙ ap (λ (b : ℕ). b ∷ drop (n + 1) chunk) (eqb-true (get_or chunk n 0) 10 newline)) ∙ sym (append_assoc (take n chunk) (10 ∷ []) (drop (n + 1) chunk)) ∙ ap (λ cs. (take n chunk ++ 10 ∷ []) ++ cs) (sym (take_rest chunk (n + 1)))

-- a chunk without one
pub none_in : (chunk : List ℕ) → ((k : ℕ) → 0 ≤ k → k < length chunk → ¬ (eqb (get_or chunk k 0) 10 ≡ true)) → has_newline chunk ≡ false
none_in chunk none =
    ap has_newline (sym (take_all (length chunk) chunk (omega arith))) ∙ none_before chunk (length chunk) (λ k from below within. none k from within)

pub parted_at-end : (chunk : List ℕ) → chunk ≡ chunk ++ take (length chunk - length chunk) (drop (length chunk) chunk)
parted_at-end chunk =
    sym (append-nil chunk) ∙ ap (λ cs. chunk ++ cs) (sym (take_rest chunk (length chunk) ∙ drop_all (length chunk) chunk (omega arith)))
