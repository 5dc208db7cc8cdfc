-- Lemmas on texts as bytes.
use Rattle.std.proofs.Common.{rules, ◌≡◌, ℕ, ◌≤◌, ◌+◌, ◌-◌, List, [], ◌∷◌, ◌++◌, length, take, Option, Some, None, MatchOption, ap, sym, ◌∙◌, refl}
use lib.Utf8.{encodes}
use Rattle.std.specs.Str.{chars, IsUtf8, IsCharBoundary}
use Rattle.std.specs.Char.{encode_utf8, IsScalar}
use Rattle.std.proofs.Math.Seq.{take-append_seam}
use Rattle.std.proofs.lemmas.List.{nil_from_length, append-nil, length-append}
use Rattle.std.proofs.lemmas.Str.{chars_past_char, chars-nil, chars-append, chars-encodes, encodes-append, encodes-chars, IsCharBoundary-at_seam, IsUtf8-take}
use Rattle.erl_chars.specs.Cursor.{after_first}

pub chars-past_first : (r : Option ℕ) (bs rest : List ℕ) (Z : Type 0) → IsUtf8 bs → (Z → rest ≡ bs) → MatchOption r ((length bs ≡ 0) × Z) (λ c. bs ≡ encode_utf8 c ++ rest) → chars rest ≡ after_first (chars bs)
chars-past_first None bs rest Z whole same h =
    let none : bs ≡ [] = nil_from_length bs h.0 in
    let rest-none : rest ≡ [] = same h.1 ∙ none in
    rw (rest-none, none, chars-nil) refl
chars-past_first (Some c) bs rest Z whole same h = rw (chars_past_char bs rest c whole h) refl

-- one more character
pub chars-push : (bs new : List ℕ) (c : ℕ) → IsUtf8 bs → IsScalar c → new ≡ bs ++ encode_utf8 c → chars new ≡ chars bs ++ c ∷ []
chars-push bs new c whole is pushed =
    let all = chars-encodes (c ∷ []) (rw is refl) in
    let one : chars (encode_utf8 c) ≡ c ∷ [] = rw append-nil at all in
    ap chars pushed ∙ (chars-append bs (encode_utf8 c) whole ∙ ap (λ cs. chars bs ++ cs) one)

-- a text is the bytes of the characters in front of what is left of it, and what is left
pub seam : (bs left front : List ℕ) → IsUtf8 bs → IsUtf8 left → chars bs ≡ front ++ chars left → bs ≡ encodes front ++ left
seam bs left front whole part parts =
    sym (encodes-chars bs whole) ∙ (ap encodes parts ∙ (encodes-append front (chars left) ∙ ap (λ ys. encodes front ++ ys) (encodes-chars left part)))

-- how many bytes stand in front of what is left
width : (bs xs left : List ℕ) → bs ≡ xs ++ left → length bs ≡ length xs + length left
width bs xs left same = ap length same ∙ length-append xs left

pub left_is_within : (bs left front : List ℕ) → IsUtf8 bs → IsUtf8 left → chars bs ≡ front ++ chars left → length left ≤ length bs
left_is_within bs left front whole part parts =
    let sum = width bs (encodes front) left (seam bs left front whole part parts) in
    search (rules, sum)

in_front_width : (bs xs left : List ℕ) → bs ≡ xs ++ left → length bs - length left ≡ length xs
in_front_width bs xs left same =
    let sum = width bs xs left same in
    search (rules, sum)

-- a character begins where what is left begins
pub boundary_before_left : (bs left front : List ℕ) → IsUtf8 bs → IsUtf8 left → chars bs ≡ front ++ chars left → IsCharBoundary bs (length bs - length left)
boundary_before_left bs left front whole part parts =
    let same = seam bs left front whole part parts in
    rw (in_front_width bs (encodes front) left same) (IsCharBoundary-at_seam bs (encodes front) left same part)

-- the bytes in front of what is left have the characters in front of it
pub chars-in_front : (bs left front : List ℕ) → IsUtf8 bs → IsUtf8 left → chars bs ≡ front ++ chars left → chars bs ≡ chars (take (length bs - length left) bs) ++ chars left
chars-in_front bs left front whole part parts =
    let same = seam bs left front whole part parts in
    let cut : take (length bs - length left) bs ≡ encodes front = ap (λ k. take k bs) (in_front_width bs (encodes front) left same) ∙ (ap (λ ys. take (length (encodes front)) ys) same ∙ take-append_seam (encodes front) left) in
    let valid : IsUtf8 (encodes front) = rw cut at (IsUtf8-take bs (length bs - length left) whole (boundary_before_left bs left front whole part parts)) in
    rw cut (ap chars same ∙ chars-append (encodes front) left valid)
