-- Printed pieces of terms as tokens: what comes first in a text that begins with one.
use Rattle.std.proofs.Common.{◌≡◌, ℕ, ◌/◌, ◌%◌, ◌<◌, ◌^◌, ◌≤◌, Bool, true, false, cond, not, ◌&&◌, ◌||◌, List, [], ◌∷◌, ◌++◌, length, map, Some, None, refl, ap, ap₂, sym, subst, ◌∙◌, append_assoc, arith, true≢false, eqb, ne_eqb}
use Rattle.std.specs.Prelude.{nat_le, nat_lt, codes}
use Rattle.std.specs.List.{flat_map, list_any, list_all}
use Rattle.std.specs.Str.{bytes_eq}
use Rattle.std.specs.Str.Parse.{digits_value, AllDigits}
use Rattle.std.specs.Char.{digit_value, digit_char}
use Rattle.std.specs.Fmt.{decimal}
use Rattle.std.proofs.lemmas.Bool.{cond-true, cond-false, eqb-true, leb-true, lt-ltb}
use Rattle.std.proofs.lemmas.Str.{digit_value-digit_char}
use Rattle.std.proofs.lemmas.Str.Parse.{digit_from_value}
use Rattle.std.proofs.lemmas.Fmt.{decimal_is_IsNumeral}
use Rattle.std.proofs.lemmas.Nat.{div-add-mod'}
use borrow.Author.Tests.{ltb-true}
use lib.Utf8.{scalar, low_scalar}
use Rattle.erl_scan.specs.declared.error.Fault.TheVariants.{AtomTooLong}
use Rattle.erl_chars.specs.Chars as kinds
use Rattle.erl_chars.specs.Chars.{is_digit, is_blank, is_small, is_capital, is_decimal, begins_variable, front, after_front, is_between}
use Rattle.erl_chars.specs.Gaps.{after_gap}
use Rattle.erl_chars.specs.Quotes.{stands, wrong, escape, hexadecimal, braced, character, Written, closed}
use Rattle.erl_scan.specs.declared.word.Word.{Word}
use Rattle.erl_scan.specs.declared.token.Token.TheVariants.{Integer, Atom, String, Mark as MarkOf, Dot}
use Rattle.erl_scan.specs.declared.mark.Mark.TheVariants.{OpenBrace, CloseBrace, OpenBracket, CloseBracket, Comma, Minus}
use Rattle.erl_scan.specs.Words.{word_text, all_words, word_among, word_of}
use Rattle.erl_scan.specs.Marks.{mark_in}
use Rattle.erl_scan.proofs.Digits.{saturated_below}
use Rattle.erl_scan.specs.Numbers.{digits_on, after_digits, whole, number_by, number_in}
use Rattle.erl_scan.specs.Tokens.{Next, token, fault, Comes, NextBy, begins_two_quotes, number_next, name_next, mark_next, plain_next}
use Rattle.erl_term.specs.Text.{is_lower, is_name_char, is_quoted_word, is_plain, hex_digit, hex, quoted_char, atom_text, string_char}
use Rattle.erl_consult.proofs.Truth.{not_true, and_left, and_right, or_true}

-- What ends a printed piece: a comma, a closing bracket, or the dot and the newline behind a term.
pub record Ends (rest : List ℕ) : Type 0 where
  pub digits : digits_on 10 rest ≡ []
  pub no_digits : after_digits 10 rest ≡ rest
  pub number : (n : ℕ) → number_by n rest ≡ whole n rest
  pub name : front kinds.is_name_char rest ≡ []
  pub no_name : after_front kinds.is_name_char rest ≡ rest

pub ends-comma : (cs : List ℕ) → Ends (44 ∷ cs)
ends-comma cs = record { digits = refl; no_digits = refl; number = λ n. refl; name = refl; no_name = refl }

pub ends-tuple : (cs : List ℕ) → Ends (125 ∷ cs)
ends-tuple cs = record { digits = refl; no_digits = refl; number = λ n. refl; name = refl; no_name = refl }

pub ends-list : (cs : List ℕ) → Ends (93 ∷ cs)
ends-list cs = record { digits = refl; no_digits = refl; number = λ n. refl; name = refl; no_name = refl }

pub ends-dot : Ends (46 ∷ 10 ∷ [])
ends-dot = record { digits = refl; no_digits = refl; number = λ n. refl; name = refl; no_name = refl }

-- Marks

pub comes-open_tuple : (cs : List ℕ) → Comes (123 ∷ cs) (token (MarkOf OpenBrace) cs)
unfolding mark_in
comes-open_tuple cs = refl

pub comes-close_tuple : (cs : List ℕ) → Comes (125 ∷ cs) (token (MarkOf CloseBrace) cs)
unfolding mark_in
comes-close_tuple cs = refl

pub comes-open_list : (cs : List ℕ) → Comes (91 ∷ cs) (token (MarkOf OpenBracket) cs)
unfolding mark_in
comes-open_list cs = refl

pub comes-close_list : (cs : List ℕ) → Comes (93 ∷ cs) (token (MarkOf CloseBracket) cs)
unfolding mark_in
comes-close_list cs = refl

pub comes-comma : (cs : List ℕ) → Comes (44 ∷ cs) (token (MarkOf Comma) cs)
unfolding mark_in
comes-comma cs = refl

pub comes-dot : Comes (46 ∷ 10 ∷ []) (token Dot (10 ∷ []))
comes-dot = refl

-- Comes, where the first character is no quote
plain : (c : ℕ) (cs : List ℕ) (next : Next) → eqb c 39 ≡ false → eqb c 34 ≡ false → next ≡ plain_next c cs → Comes (c ∷ cs) next
plain c cs next single double is =
    subst (λ b. NextBy b (eqb c 34) c cs next) (sym single) (subst (λ b. NextBy false b c cs next) (sym double) is)

-- Integers

digits-all : (ds rest : List ℕ) → AllDigits 10 ds → digits_on 10 rest ≡ [] → digits_on 10 (ds ++ rest) ≡ ds
digits-all [] rest all ends = ends
digits-all (d ∷ ds) rest all ends =
    cond-true (is_digit 10 d) _ _ (lt-ltb (digit_value d) 10 all.0) ∙ ap (λ x. d ∷ x) (digits-all ds rest all.1 ends)

digits-past : (ds rest : List ℕ) → AllDigits 10 ds → after_digits 10 rest ≡ rest → after_digits 10 (ds ++ rest) ≡ rest
digits-past [] rest all ends = ends
digits-past (d ∷ ds) rest all ends =
    cond-true (is_digit 10 d) _ _ (lt-ltb (digit_value d) 10 all.0) ∙ digits-past ds rest all.1 ends

numeral-comes : (ds rest : List ℕ) (n : ℕ) → 0 < length ds → AllDigits 10 ds → digits_value 10 ds ≡ n → n ≤ 2 ^ 63 → Ends rest → Comes (ds ++ rest) (token (Integer n) rest)
numeral-comes [] rest n some all value le ends = absurd (omega (arith, some))
numeral-comes (d ∷ ds) rest n some all value le ends =
    plain d (ds ++ rest) (token (Integer n) rest) (ne_eqb d 39 (λ e. omega (arith, e, digit_from_value d all.0))) (ne_eqb d 34 (λ e. omega (arith, e, digit_from_value d all.0))) (sym (cond-true (is_digit 10 d) _ _ (lt-ltb (digit_value d) 10 all.0) ∙ (ap (number_next (d ∷ (ds ++ rest))) number ∙ ap (λ m. token (Integer m) rest) (saturated_below n (omega (arith, le))))))
  where
    number : number_in (d ∷ (ds ++ rest)) ≡ whole n rest
    number =
        ap₂ (λ xs ys. number_by (digits_value 10 xs) ys) (digits-all (d ∷ ds) rest all ends.digits) (digits-past (d ∷ ds) rest all ends.no_digits) ∙ (ap (λ m. number_by m rest) value ∙ ends.number n)

pub comes-decimal : (n : ℕ) (rest : List ℕ) → n ≤ 2 ^ 63 → Ends rest → Comes (decimal n ++ rest) (token (Integer n) rest)
comes-decimal n rest le ends =
    let numeral = decimal_is_IsNumeral n (omega (arith, le)) in
    numeral-comes (decimal n) rest n numeral.0.0 numeral.0.1 numeral.1 le ends

-- What a text begins with that a digit begins

starts_digit : (d : ℕ) (ds rest : List ℕ) → digit_value d < 10 → after_gap (d ∷ rest) ≡ d ∷ rest
starts_digit d ds rest digit =
    let range = digit_from_value d digit in
    cond-false (is_blank d) _ _ (no_blank d range.0 range.1) ∙ cond-false (eqb d 37) _ _ (ne_eqb d 37 (λ e. omega (arith, e, range.0)))
  where
    no_blank : (c : ℕ) → 48 ≤ c → c ≤ 57 → is_blank c ≡ false
    no_blank c low high = grind (arith, low, high)

-- A minus, where a digit follows

mark-minus : (d : ℕ) (ds : List ℕ) → eqb 62 d ≡ false → eqb 45 d ≡ false → mark_in (45 ∷ d ∷ ds) ≡ Some (record { mark = Minus; rest = d ∷ ds })
unfolding mark_in
mark-minus d ds no_arrow no_minus = rw (no_arrow, no_minus) refl

numeral-minus : (ds rest : List ℕ) → 0 < length ds → AllDigits 10 ds → Comes (45 ∷ (ds ++ rest)) (token (MarkOf Minus) (ds ++ rest))
numeral-minus [] rest some all = absurd (omega (arith, some))
numeral-minus (d ∷ ds) rest some all =
    let range = digit_from_value d all.0 in
    sym (ap (mark_next (45 ∷ d ∷ (ds ++ rest))) (mark-minus d (ds ++ rest) (ne_eqb 62 d (λ e. omega (arith, e, range.1))) (ne_eqb 45 d (λ e. omega (arith, e, range.0)))))

pub comes-minus : (n : ℕ) (rest : List ℕ) → n ≤ 2 ^ 63 → Comes (45 ∷ (decimal n ++ rest)) (token (MarkOf Minus) (decimal n ++ rest))
comes-minus n rest le =
    let numeral = decimal_is_IsNumeral n (omega (arith, le)) in
    numeral-minus (decimal n) rest numeral.0.0 numeral.0.1

-- no blank and no comment stands before a numeral
numeral-gap : (ds rest : List ℕ) → 0 < length ds → AllDigits 10 ds → after_gap (ds ++ rest) ≡ ds ++ rest
numeral-gap [] rest some all = absurd (omega (arith, some))
numeral-gap (d ∷ ds) rest some all = starts_digit d ds (ds ++ rest) all.0

pub gap-decimal : (n : ℕ) (rest : List ℕ) → n ≤ 2 ^ 63 → after_gap (decimal n ++ rest) ≡ decimal n ++ rest
gap-decimal n rest le =
    let numeral = decimal_is_IsNumeral n (omega (arith, le)) in
    numeral-gap (decimal n) rest numeral.0.0 numeral.0.1

-- Names without quotes

-- the name characters of printing are some of reading's
name-or : (a b d e f x y : Bool) → a || b || d || e || f ≡ true → (a || x) || ((b || y) || (d || (e || f))) ≡ true
name-or true b d e f x y h = refl
name-or false true d e f x y h = or_true x
name-or false false true e f x y h = ap (λ z. x || z) (or_true y) ∙ or_true x
name-or false false false true f x y h = ap (λ z. x || z) (or_true y) ∙ or_true x
name-or false false false false true x y h = ap (λ z. x || z) (or_true y) ∙ or_true x
name-or false false false false false x y h = absurd (true≢false (sym h))

name-char : (c : ℕ) → is_name_char c ≡ true → kinds.is_name_char c ≡ true
name-char c h =
    name-or (is_lower c) (nat_le 65 c && nat_le c 90) (nat_le 48 c && nat_le c 57) (eqb c 95) (eqb c 64) (is_between 223 255 c && not (eqb c 247)) (is_between 192 222 c && not (eqb c 215)) h

front-name : (cs rest : List ℕ) → list_all is_name_char cs ≡ true → front kinds.is_name_char rest ≡ [] → front kinds.is_name_char (cs ++ rest) ≡ cs
front-name [] rest all ends = ends
front-name (c ∷ cs) rest all ends =
    cond-true (kinds.is_name_char c) _ _ (name-char c (and_left (is_name_char c) (list_all is_name_char cs) all)) ∙ ap (λ x. c ∷ x) (front-name cs rest (and_right (is_name_char c) (list_all is_name_char cs) all) ends)

past-name : (cs rest : List ℕ) → list_all is_name_char cs ≡ true → after_front kinds.is_name_char rest ≡ rest → after_front kinds.is_name_char (cs ++ rest) ≡ rest
past-name [] rest all ends = ends
past-name (c ∷ cs) rest all ends =
    cond-true (kinds.is_name_char c) _ _ (name-char c (and_left (is_name_char c) (list_all is_name_char cs) all)) ∙ past-name cs rest (and_right (is_name_char c) (list_all is_name_char cs) all) ends

-- reserved words are among those that are printed in quotes

any-skip : (p : List ℕ → Bool) (xs ys : List (List ℕ)) (w : List ℕ) → list_any p (xs ++ w ∷ ys) ≡ false → list_any p (xs ++ ys) ≡ false
any-skip p [] ys w e = or_false_right (p w) (list_any p ys) e
  where
    or_false_right : (a b : Bool) → a || b ≡ false → b ≡ false
    or_false_right true b h = absurd (true≢false h)
    or_false_right false b h = h
any-skip p (x ∷ xs) ys w e = both (p x) (list_any p (xs ++ w ∷ ys)) (list_any p (xs ++ ys)) e (any-skip p xs ys w)
  where
    both : (a b c : Bool) → a || b ≡ false → (b ≡ false → c ≡ false) → a || c ≡ false
    both true b c h f = absurd (true≢false h)
    both false b c h f = f h

among-none : (ws : List Word) (cs : List ℕ) → list_any (λ w. bytes_eq w cs) (map word_text ws) ≡ false → word_among ws cs ≡ None
among-none [] cs e = refl
among-none (w ∷ ws) cs e = by (bytes_eq (word_text w) cs) (list_any (λ v. bytes_eq v cs) (map word_text ws)) refl e (among-none ws cs)
  where
    by : (a b : Bool) → bytes_eq (word_text w) cs ≡ a → a || b ≡ false → (b ≡ false → word_among ws cs ≡ None) → word_among (w ∷ ws) cs ≡ None
    by true b is h f = absurd (true≢false h)
    by false b is h f = cond-false (bytes_eq (word_text w) cs) _ _ is ∙ f h

front_words : List (List ℕ)
front_words =
    codes "after" ∷ codes "and" ∷ codes "andalso" ∷ codes "band" ∷ codes "begin" ∷ codes "bnot" ∷ codes "bor" ∷ codes "bsl" ∷ codes "bsr" ∷ codes "bxor" ∷ codes "case" ∷ codes "catch" ∷ codes "cond" ∷ codes "div" ∷ []

middle_words : List (List ℕ)
middle_words = codes "end" ∷ codes "fun" ∷ codes "if" ∷ codes "let" ∷ []

back_words : List (List ℕ)
back_words = codes "not" ∷ codes "of" ∷ codes "or" ∷ codes "orelse" ∷ codes "receive" ∷ codes "rem" ∷ codes "try" ∷ codes "when" ∷ codes "xor" ∷ []

no_word : (cs : List ℕ) → is_quoted_word cs ≡ false → word_of cs ≡ None
unfolding is_quoted_word word_of front_words middle_words back_words
no_word cs e =
    among-none all_words cs (any-skip (λ w. bytes_eq w cs) (front_words ++ middle_words) back_words (codes "maybe") (any-skip (λ w. bytes_eq w cs) front_words (middle_words ++ codes "maybe" ∷ back_words) (codes "else") e))

-- a plain atom

lower-range : (c : ℕ) → is_lower c ≡ true → (97 ≤ c) × (c ≤ 122)
lower-range c e = (leb-true 97 c (and_left (nat_le 97 c) (nat_le c 122) e), leb-true c 122 (and_right (nat_le 97 c) (nat_le c 122) e))

no_digit : (c : ℕ) → 58 ≤ c → is_digit 10 c ≡ false
no_digit c high = by (is_digit 10 c) refl
  where
    by : (b : Bool) → is_digit 10 c ≡ b → is_digit 10 c ≡ false
    by true e = absurd (omega (arith, high, (digit_from_value c (ltb-true (digit_value c) 10 e)).1))
    by false e = e

plain-atom : (c : ℕ) (cs rest : List ℕ) → is_lower c ≡ true → list_all is_name_char (c ∷ cs) ≡ true → is_quoted_word (c ∷ cs) ≡ false → length (c ∷ cs) ≤ 255 → Ends rest → Comes (c ∷ (cs ++ rest)) (token (Atom (c ∷ cs)) rest)
plain-atom c cs rest lower all no_quotes short ends =
    let range = lower-range c lower in
    let names = and_right (is_name_char c) (list_all is_name_char cs) all in
    plain c (cs ++ rest) (token (Atom (c ∷ cs)) rest) (ne_eqb c 39 (λ e. omega (arith, e, range.0))) (ne_eqb c 34 (λ e. omega (arith, e, range.0))) (sym (cond-false (is_digit 10 c) _ _ (no_digit c (omega (arith, range.0))) ∙ (cond-false (eqb c 36) _ _ (ne_eqb c 36 (λ e. omega (arith, e, range.0))) ∙ (cond-true (is_small c) _ _ (ap (λ b. b || (is_between 223 255 c && not (eqb c 247))) lower) ∙ (ap₂ (λ xs ys. name_next (c ∷ (cs ++ rest)) (c ∷ xs) (word_of (c ∷ xs)) ys) (front-name cs rest names ends.name) (past-name cs rest names ends.no_name) ∙ (ap (λ w. name_next (c ∷ (cs ++ rest)) (c ∷ cs) w rest) (no_word (c ∷ cs) no_quotes) ∙ cond-false (nat_lt 255 (length (c ∷ cs))) _ _ (by (nat_lt 255 (length (c ∷ cs))) refl)))))))
  where
    by : (b : Bool) → nat_lt 255 (length (c ∷ cs)) ≡ b → nat_lt 255 (length (c ∷ cs)) ≡ false
    by true e = absurd (omega (arith, short, ltb-true 255 (length (c ∷ cs)) e))
    by false e = e

gap-lower : (c : ℕ) (rest : List ℕ) → is_lower c ≡ true → after_gap (c ∷ rest) ≡ c ∷ rest
gap-lower c rest lower =
    let range = lower-range c lower in
    cond-false (is_blank c) _ _ (no_blank c range.0 range.1) ∙ cond-false (eqb c 37) _ _ (ne_eqb c 37 (λ e. omega (arith, e, range.0)))
  where
    no_blank : (d : ℕ) → 97 ≤ d → d ≤ 122 → is_blank d ≡ false
    no_blank d low high = grind (arith, low, high)

-- Quotes

-- an escape of two characters
escaped-quote : (q c : ℕ) (more : List ℕ) → eqb 92 q ≡ false → escape (c ∷ more) ≡ stands c more → character q (92 ∷ c ∷ more) ≡ stands c more
escaped-quote q c more no_quote e = cond-false (eqb 92 q) _ _ no_quote ∙ e

escape-single : (more : List ℕ) → escape (39 ∷ more) ≡ stands 39 more
escape-single more = refl

escape-double : (more : List ℕ) → escape (34 ∷ more) ≡ stands 34 more
escape-double more = refl

escape-backslash : (more : List ℕ) → escape (92 ∷ more) ≡ stands 92 more
escape-backslash more = refl

-- hexadecimal digits
glyph : (n : ℕ) → n < 16 → hex_digit n ≡ digit_char n
glyph n small = by (nat_le n 9) refl
  where
    by : (b : Bool) → nat_le n 9 ≡ b → hex_digit n ≡ digit_char n
    by true e = cond-true (nat_le n 9) _ _ e ∙ sym (cond-true (nat_lt n 10) _ _ (lt-ltb n 10 (omega (arith, leb-true n 9 e))))
    by false e = grind (arith, e)

glyph-value : (n : ℕ) → n < 16 → digit_value (hex_digit n) ≡ n
glyph-value n small = ap digit_value (glyph n small) ∙ digit_value-digit_char n (omega (arith, small))

glyph-digit : (n : ℕ) → n < 16 → is_digit 16 (hex_digit n) ≡ true
glyph-digit n small = ap (λ v. nat_lt v 16) (glyph-value n small) ∙ lt-ltb n 16 small

-- one hexadecimal digit between braces
one_hex : (h c : ℕ) (more : List ℕ) → is_digit 16 h ≡ true → digits_value 16 (h ∷ []) ≡ c → c < 256 → hexadecimal (123 ∷ h ∷ 125 ∷ more) ≡ stands c more
one_hex h c more digit value small =
    ap₂ braced (cond-true (is_digit 16 h) (h ∷ []) [] digit) (cond-true (is_digit 16 h) (125 ∷ more) (h ∷ 125 ∷ more) digit) ∙ (ap (λ v. cond (true && scalar v) (stands v more) wrong) value ∙ ap (λ b. cond b (stands c more) wrong) (low_scalar c (omega (arith, small))))

-- two of them
two_hex : (g h c : ℕ) (more : List ℕ) → is_digit 16 g ≡ true → is_digit 16 h ≡ true → digits_value 16 (g ∷ h ∷ []) ≡ c → c < 256 → hexadecimal (123 ∷ g ∷ h ∷ 125 ∷ more) ≡ stands c more
two_hex g h c more digit digit2 value small =
    ap₂ braced (cond-true (is_digit 16 g) (g ∷ front (is_digit 16) (h ∷ 125 ∷ more)) [] digit ∙ ap (λ x. g ∷ x) (cond-true (is_digit 16 h) (h ∷ []) [] digit2)) (cond-true (is_digit 16 g) (after_front (is_digit 16) (h ∷ 125 ∷ more)) (g ∷ h ∷ 125 ∷ more) digit ∙ cond-true (is_digit 16 h) (125 ∷ more) (h ∷ 125 ∷ more) digit2) ∙ (ap (λ v. cond (true && scalar v) (stands v more) wrong) value ∙ ap (λ b. cond b (stands c more) wrong) (low_scalar c (omega (arith, small))))

hex-stands : (c : ℕ) (more : List ℕ) → c < 256 → hexadecimal (123 ∷ (hex c ++ 125 ∷ more)) ≡ stands c more
hex-stands c more small = by (nat_le c 15) refl
  where
    by : (b : Bool) → nat_le c 15 ≡ b → hexadecimal (123 ∷ (hex c ++ 125 ∷ more)) ≡ stands c more
    by true e =
        let low : c < 16 = omega (arith, leb-true c 15 e) in
        ap (λ ds. hexadecimal (123 ∷ (ds ++ 125 ∷ more))) (cond-true (nat_le c 15) (hex_digit c ∷ []) (hex_digit (c / 16) ∷ hex_digit (c % 16) ∷ []) e) ∙ one_hex (hex_digit c) c more (glyph-digit c low) (omega (arith, glyph-value c low)) small
    by false e =
        let high : c / 16 < 16 = omega (arith, small) in
        let low : c % 16 < 16 = omega arith in
        ap (λ ds. hexadecimal (123 ∷ (ds ++ 125 ∷ more))) (cond-false (nat_le c 15) (hex_digit c ∷ []) (hex_digit (c / 16) ∷ hex_digit (c % 16) ∷ []) e) ∙ two_hex (hex_digit (c / 16)) (hex_digit (c % 16)) c more (glyph-digit (c / 16) high) (glyph-digit (c % 16) low) (omega (arith, glyph-value (c / 16) high, glyph-value (c % 16) low, div-add-mod' c 16)) small

-- characters as they are printed in quotes

itself : (q c : ℕ) (more : List ℕ) → eqb c q ≡ false → eqb c 92 ≡ false → character q (c ∷ more) ≡ stands c more
itself q c more no_quote no_backslash = cond-false (eqb c q) _ _ no_quote ∙ cond-false (eqb c 92) _ _ no_backslash

or_false : (a b : Bool) → a ≡ false → b ≡ false → a || b ≡ false
or_false a b a_is b_is = ap (λ x. x || b) a_is ∙ b_is

pub control-small : (c : ℕ) (a b : Bool) → nat_le c 31 ≡ a → eqb c 127 ≡ b → a || b ≡ true → c < 256
control-small c true b a_is b_is e = omega (arith, leb-true c 31 a_is)
control-small c false true a_is b_is e = omega (arith, eqb-true c 127 b_is)
control-small c false false a_is b_is e = absurd (true≢false (sym e))

quoted-stands : (c : ℕ) (more : List ℕ) → character 39 (quoted_char c ++ more) ≡ stands c more
quoted-stands c more = by (eqb c 39) (eqb c 92) (nat_le c 31 || eqb c 127) refl refl refl
  where
    by : (a b d : Bool) → eqb c 39 ≡ a → eqb c 92 ≡ b → nat_le c 31 || eqb c 127 ≡ d → character 39 (quoted_char c ++ more) ≡ stands c more
    by true b d single backslash control = subst (λ x. character 39 (quoted_char x ++ more) ≡ stands x more) (sym (eqb-true c 39 single)) refl
    by false true d single backslash control = subst (λ x. character 39 (quoted_char x ++ more) ≡ stands x more) (sym (eqb-true c 92 backslash)) refl
    by false false true single backslash control =
        ap (λ ds. character 39 (ds ++ more)) (cond-false (eqb c 39 || eqb c 92) _ _ (or_false (eqb c 39) (eqb c 92) single backslash) ∙ cond-true (nat_le c 31 || eqb c 127) (codes "\\x{" ++ (hex c ++ 125 ∷ [])) (c ∷ []) control) ∙ (ap (λ ds. hexadecimal (123 ∷ ds)) (append_assoc (hex c) (125 ∷ []) more) ∙ hex-stands c more (control-small c (nat_le c 31) (eqb c 127) refl refl control))
    by false false false single backslash control =
        ap (λ ds. character 39 (ds ++ more)) (cond-false (eqb c 39 || eqb c 92) _ _ (or_false (eqb c 39) (eqb c 92) single backslash) ∙ cond-false (nat_le c 31 || eqb c 127) (codes "\\x{" ++ (hex c ++ 125 ∷ [])) (c ∷ []) control) ∙ itself 39 c more single backslash

string-stands : (c : ℕ) (more : List ℕ) → character 34 (string_char c ++ more) ≡ stands c more
string-stands c more = by (eqb c 34) (eqb c 92) refl refl
  where
    by : (a b : Bool) → eqb c 34 ≡ a → eqb c 92 ≡ b → character 34 (string_char c ++ more) ≡ stands c more
    by true b double backslash = subst (λ x. character 34 (string_char x ++ more) ≡ stands x more) (sym (eqb-true c 34 double)) refl
    by false true double backslash = subst (λ x. character 34 (string_char x ++ more) ≡ stands x more) (sym (eqb-true c 92 backslash)) refl
    by false false double backslash =
        ap (λ ds. character 34 (ds ++ more)) (cond-false (eqb c 34 || eqb c 92) _ _ (or_false (eqb c 34) (eqb c 92) double backslash)) ∙ itself 34 c more double backslash

written : (q : ℕ) (f : ℕ → List ℕ) → ((c : ℕ) (more : List ℕ) → character q (f c ++ more) ≡ stands c more) → (cs rest : List ℕ) → Written q (flat_map f cs ++ rest) cs rest
written q f each [] rest = refl
written q f each (c ∷ cs) rest =
    (flat_map f cs ++ rest, ap (character q) (append_assoc (f c) (flat_map f cs) rest) ∙ each c (flat_map f cs ++ rest), written q f each cs rest)

long-not : (cs : List ℕ) → length cs ≤ 255 → nat_lt 255 (length cs) ≡ false
long-not cs short = by (nat_lt 255 (length cs)) refl
  where
    by : (b : Bool) → nat_lt 255 (length cs) ≡ b → nat_lt 255 (length cs) ≡ false
    by true e = absurd (omega (arith, short, ltb-true 255 (length cs) e))
    by false e = e

quoted-atom : (cs rest : List ℕ) → length cs ≤ 255 → Comes (39 ∷ (flat_map quoted_char cs ++ 39 ∷ rest)) (token (Atom cs) rest)
quoted-atom cs rest short =
    (closed cs rest, (39 ∷ rest, written 39 quoted_char quoted-stands cs (39 ∷ rest), refl), sym (cond-false (nat_lt 255 (length cs)) (fault AtomTooLong (39 ∷ (flat_map quoted_char cs ++ 39 ∷ rest))) (token (Atom cs) rest) (long-not cs short)))

two-not : (c : ℕ) (ds : List ℕ) → eqb c 34 ≡ false → begins_two_quotes (c ∷ ds) ≡ false
two-not c [] e = refl
two-not c (d ∷ ds) e = ap (λ b. b && eqb d 34) e

first-not : (c : ℕ) (more : List ℕ) → begins_two_quotes (string_char c ++ more) ≡ false
first-not c more = by (eqb c 34) (eqb c 92) refl refl
  where
    by : (a b : Bool) → eqb c 34 ≡ a → eqb c 92 ≡ b → begins_two_quotes (string_char c ++ more) ≡ false
    by true b double backslash = subst (λ x. begins_two_quotes (string_char x ++ more) ≡ false) (sym (eqb-true c 34 double)) refl
    by false true double backslash = subst (λ x. begins_two_quotes (string_char x ++ more) ≡ false) (sym (eqb-true c 92 backslash)) refl
    by false false double backslash =
        ap (λ ds. begins_two_quotes (ds ++ more)) (cond-false (eqb c 34 || eqb c 92) (92 ∷ c ∷ []) (c ∷ []) (or_false (eqb c 34) (eqb c 92) double backslash)) ∙ two-not c more double

pub comes-string : (c : ℕ) (cs rest : List ℕ) → Comes (34 ∷ (flat_map string_char (c ∷ cs) ++ 34 ∷ rest)) (token (String (c ∷ cs)) rest)
comes-string c cs rest =
    (closed (c ∷ cs) rest, (34 ∷ rest, written 34 string_char string-stands (c ∷ cs) (34 ∷ rest), refl), sym (cond-false (begins_two_quotes (flat_map string_char (c ∷ cs) ++ 34 ∷ rest)) _ _ (ap begins_two_quotes (append_assoc (string_char c) (flat_map string_char cs) (34 ∷ rest)) ∙ first-not c (flat_map string_char cs ++ 34 ∷ rest))))

-- Atoms as they are printed

pub record Lexed (cs rest : List ℕ) (next : Next) : Type 0 where
  pub gap : after_gap cs ≡ cs
  pub comes : Comes cs next

atom-by : (b : Bool) (cs rest : List ℕ) → is_plain cs ≡ b → length cs ≤ 255 → Ends rest → Lexed (cond b cs (39 ∷ (flat_map quoted_char cs ++ 39 ∷ [])) ++ rest) rest (token (Atom cs) rest)
atom-by false cs rest e short ends = record {
  gap = refl;
  comes = subst (λ x. Comes (39 ∷ x) (token (Atom cs) rest)) (sym (append_assoc (flat_map quoted_char cs) (39 ∷ []) rest)) (quoted-atom cs rest short);
}
atom-by true [] rest e short ends = absurd (true≢false (sym e))
atom-by true (c ∷ cs) rest e short ends =
    let lower = and_left (is_lower c) (list_all is_name_char (c ∷ cs) && not (is_quoted_word (c ∷ cs))) e in
    let others = and_right (is_lower c) (list_all is_name_char (c ∷ cs) && not (is_quoted_word (c ∷ cs))) e in
    record {
      gap = gap-lower c (cs ++ rest) lower;
      comes = plain-atom c cs rest lower (and_left (list_all is_name_char (c ∷ cs)) (not (is_quoted_word (c ∷ cs))) others) (not_true (is_quoted_word (c ∷ cs)) (and_right (list_all is_name_char (c ∷ cs)) (not (is_quoted_word (c ∷ cs))) others)) short ends;
    }

pub lexed-atom : (cs rest : List ℕ) → length cs ≤ 255 → Ends rest → Lexed (atom_text cs ++ rest) rest (token (Atom cs) rest)
lexed-atom cs rest short ends = atom-by (is_plain cs) cs rest refl short ends
