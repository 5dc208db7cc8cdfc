-- Pieces are written one after the other, and only their markup has brackets.
use Rattle.std.proofs.Common.{◌≡◌, ◌∙◌, refl, sym, ap, subst, ℕ, ◌+◌, ◌^◌, ◌<◌, ◌%◌, ◌==◌, ◌||◌, Bool, true, false, cond, if◌then◌else◌, List, [], ◌∷◌, ◌++◌, length, take, get_or, append_assoc, append-nil, arith, Result, Ok, Err, is_ok, OnOk}
use Rattle.std.specs.Fmt.{decimal}
use Rattle.std.specs.List.{list_any}
use Rattle.std.proofs.lemmas.Bool.{true≢false, ne_eqb}
use Rattle.std.proofs.lemmas.Fmt.{decimal_by_steps}
use Rattle.std.proofs.lemmas.List.{take_more}
use Rattle.std.proofs.lemmas.List.Elements.{filter-append}
use Rattle.rehearsal_page.specs.Escaping.{brackets, escaped, is_bracket}
use Rattle.rehearsal_page.specs.Parts.{Adds, AreWritten, IsWritten, markup_in, markup_of}
use Rattle.rehearsal_page.specs.declared.parts.Part.{Part}
use Rattle.rehearsal_page.proofs.Escaped.{escaped-is-plain}

-- one piece more
written-more : (parts : List Part) (part : Part) (front back : List ℕ) → AreWritten parts front → IsWritten part back → AreWritten (parts ++ part ∷ []) (front ++ back)
unfolding AreWritten
written-more [] part front back none one = (back, [], one, refl, ap (λ l. l ++ back) none ∙ sym (append-nil back))
written-more (p ∷ ps) part front back (first, rest, here, there, is) one =
    (first, rest ++ back, here, written-more ps part rest back there one, ap (λ l. l ++ back) is ∙ append_assoc first rest back)

pub added-more : (parts : List Part) (i : ℕ) (d : Part) (old mid new : List ℕ) → i < length parts → Adds (AreWritten (take i parts)) old mid → Adds (IsWritten (get_or parts i d)) mid new → Adds (AreWritten (take (i + 1) parts)) old new
added-more parts i d old mid new less (front, so_far, is) (back, one, more) =
    let all = written-more (take i parts) (get_or parts i d) front back so_far one in
    (front ++ back, subst (λ ps. AreWritten ps (front ++ back)) (sym (take_more parts i d less)) all, more ∙ ap (λ l. l ++ back) is ∙ append_assoc old front back)

-- the markup of one piece more
markup-more : (parts : List Part) (part : Part) → markup_of (parts ++ part ∷ []) ≡ markup_of parts ++ markup_in part
unfolding markup_of
markup-more [] part = append-nil (markup_in part)
markup-more (p ∷ ps) part = ap (λ l. markup_in p ++ l) (markup-more ps part) ∙ sym (append_assoc (markup_in p) (markup_of ps) (markup_in part))

pub brackets-more : (parts : List Part) (i : ℕ) (d : Part) (old mid new : List ℕ) → i < length parts → brackets mid ≡ brackets old ++ brackets (markup_of (take i parts)) → brackets new ≡ brackets mid ++ brackets (markup_in (get_or parts i d)) → brackets new ≡ brackets old ++ brackets (markup_of (take (i + 1) parts))
brackets-more parts i d old mid new less so_far one =
    let part = get_or parts i d in
    let front = markup_of (take i parts) in
    let both : brackets front ++ brackets (markup_in part) ≡ brackets (markup_of (take (i + 1) parts)) =
    sym (filter-append is_bracket front (markup_in part)) ∙ ap brackets (sym (markup-more (take i parts) part) ∙ ap markup_of (sym (take_more parts i d less))) in
    one ∙ ap (λ l. l ++ brackets (markup_in part)) so_far ∙ append_assoc (brackets old) (brackets front) (brackets (markup_in part)) ∙ ap (λ l. brackets old ++ l) both

-- bytes without brackets after others
pub plain-behind : (old new bytes : List ℕ) → new ≡ old ++ bytes → brackets bytes ≡ [] → brackets new ≡ brackets old
plain-behind old new bytes is none =
    ap brackets is ∙ filter-append is_bracket old bytes ∙ ap (λ l. brackets old ++ l) none ∙ append-nil (brackets old)

kept-none : (first rest : Bool) (x : ℕ) (kept : List ℕ) → (first || rest) ≡ false → (rest ≡ false → kept ≡ []) → cond first (x ∷ kept) kept ≡ []
kept-none true rest x kept none more = absurd (true≢false none)
kept-none false rest x kept none more = more none

no-brackets : (bytes : List ℕ) → list_any is_bracket bytes ≡ false → brackets bytes ≡ []
no-brackets [] none = refl
no-brackets (b ∷ bs) none = kept-none (is_bracket b) (list_any is_bracket bs) b (brackets bs) none (λ rest. no-brackets bs rest)

-- a text has none
pub text-is-plain : (text : List ℕ) → brackets (escaped text) ≡ []
text-is-plain text = no-brackets (escaped text) (escaped-is-plain text)

-- a digit is none
digit-is-plain : (d : ℕ) → d < 10 → is_bracket (48 + d) ≡ false
digit-is-plain d less =
    let less_than : ((48 + d) == 60) ≡ false = ne_eqb (48 + d) 60 (λ is. omega arith) in
    let more_than : ((48 + d) == 62) ≡ false = ne_eqb (48 + d) 62 (λ is. omega arith) in
    let quote : ((48 + d) == 34) ≡ false = ne_eqb (48 + d) 34 (λ is. omega arith) in
    let single : ((48 + d) == 39) ≡ false = ne_eqb (48 + d) 39 (λ is. omega arith) in
    rw less_than (rw more_than (rw quote (rw single refl)))

last-is-plain : (digits : List ℕ) (d : ℕ) → d < 10 → brackets digits ≡ [] → brackets (digits ++ (48 + d) ∷ []) ≡ []
last-is-plain digits d less none =
    let one : brackets ((48 + d) ∷ []) ≡ [] = ap (λ b. cond b ((48 + d) ∷ []) []) (digit-is-plain d less) in
    filter-append is_bracket digits ((48 + d) ∷ []) ∙ ap (λ l. l ++ brackets ((48 + d) ∷ [])) none ∙ one

-- a number has none
pub number-is-plain : (n : ℕ) → n < 2 ^ 64 → brackets (decimal n) ≡ []
number-is-plain n small =
    decimal_by_steps (λ m digits. brackets digits ≡ [])
    (λ m less. last-is-plain [] m less refl)
    (λ m digits more none. last-is-plain digits (m % 10) (omega arith) none) n small

-- what is appended if no allocation fails
pub appended : {T E : Type 0} (r : Result T E) (old new bytes : List ℕ) → new ≡ (if is_ok r then old ++ bytes else old) → OnOk r (new ≡ old ++ bytes)
appended (Ok x) old new bytes is = is
appended (Err e) old new bytes is = tt
