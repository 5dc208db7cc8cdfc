-- Behind a token less is left than before it.
use Rattle.std.proofs.Common.{◌≡◌, ℕ, ◌<◌, ◌≤◌, Bool, true, false, cond, not, ◌&&◌, ◌||◌, List, [], ◌∷◌, length, Some, None, refl, ap, sym, subst, ◌∙◌, arith, true≢false, eqb}
use Rattle.std.specs.Prelude.{Option, nat_le, nat_lt}
use Rattle.std.specs.List.{list_all}
use Rattle.std.specs.Str.Parse.{digits_value}
use Rattle.std.proofs.lemmas.Option.{none-some, same_Some}
use lib.Utf8.{scalar}
use Rattle.erl_scan.specs.declared.error.Fault.TheVariants.{AtomTooLong, Unsupported}
use Rattle.erl_chars.specs.Chars.{is_digit, is_small, is_name_char, begins_variable, after_front, front}
use Rattle.erl_chars.specs.Gaps.{past_gap, after_gap}
use Rattle.erl_chars.specs.Chars.{is_blank}
use Rattle.erl_chars.specs.Quotes.{Step, stands, closing, cut, wrong, octal, braced, two_digits, hexadecimal, control, named, escape, character, Written, Quoted, closed, unclosed, bad_escape, IsQuoted}
use Rattle.erl_chars.proofs.Characters.{character-shorter}
use Rattle.erl_scan.specs.declared.word.Word.{Word}
use Rattle.erl_scan.specs.declared.mark.Mark.{Mark}
use Rattle.erl_scan.specs.declared.token.Token.{Token}
use Rattle.erl_scan.specs.declared.token.Token.TheVariants.{Integer, Atom, Variable, Dot}
use Rattle.erl_scan.specs.Words.{word_of}
use Rattle.erl_scan.specs.Marks.{Marked, mark_text, all_marks, behind, or_else, mark_among, mark_in}
use Rattle.erl_scan.specs.Numbers.{Number, whole, real, no_base, begins_with_digit, after_digits, value_in, after_sign, after_exponent, number_by, number_in}
use Rattle.erl_scan.specs.Tokens.{Next, ends, token, fault, Comes, NextBy, atom_next, string_next, begins_two_quotes, number_next, escaped_next, character_next, name_next, mark_next, plain_next, ends_form}
use Rattle.std.proofs.lemmas.Bool.{and_parts}

-- of two lists, one of which is taken
either : (b : Bool) (x y : List ℕ) (n : ℕ) → length x ≤ n → length y ≤ n → length (cond b x y) ≤ n
either true x y n x_le y_le = x_le
either false x y n x_le y_le = y_le

-- how much is left behind what comes next
abbrev left_by : Next → ℕ
left_by ends = 0
left_by (token t rest) = length rest
left_by (fault k at) = 0

either_next : (b : Bool) (x y : Next) (n : ℕ) → left_by x ≤ n → left_by y ≤ n → left_by (cond b x y) ≤ n
either_next true x y n x_le y_le = x_le
either_next false x y n x_le y_le = y_le

after_front-le : (p : ℕ → Bool) (cs : List ℕ) → length (after_front p cs) ≤ length cs
after_front-le p [] = omega arith
after_front-le p (c ∷ cs) = either (p c) (after_front p cs) (c ∷ cs) (length (c ∷ cs)) (omega (arith, after_front-le p cs)) (omega arith)

pub after_gap-le : (b : Bool) (cs : List ℕ) → length (past_gap b cs) ≤ length cs
after_gap-le true [] = omega arith
after_gap-le false [] = omega arith
after_gap-le false (c ∷ cs) =
    either (is_blank c) (past_gap false cs) (cond (eqb c 37) (past_gap true cs) (c ∷ cs)) (length (c ∷ cs)) (omega (arith, after_gap-le false cs)) (either (eqb c 37) (past_gap true cs) (c ∷ cs) (length (c ∷ cs)) (omega (arith, after_gap-le true cs)) (omega arith))
after_gap-le true (c ∷ cs) = by (after_gap-le true cs) (after_gap-le false cs) (eqb c 10)
  where
    by : length (past_gap true cs) ≤ length cs → length (past_gap false cs) ≤ length cs → (b : Bool) → length (past_gap (not b) cs) ≤ length (c ∷ cs)
    by t f true = omega (arith, f)
    by t f false = omega (arith, t)

-- Numbers

after_digits-le : (base : ℕ) (cs : List ℕ) → length (after_digits base cs) ≤ length cs
after_digits-le base [] = omega arith
after_digits-le base (c ∷ cs) =
    either (is_digit base c) (after_digits base cs) (cond (eqb c 95 && begins_with_digit base cs) (after_digits base cs) (c ∷ cs)) (length (c ∷ cs)) (omega (arith, after_digits-le base cs)) (either (eqb c 95 && begins_with_digit base cs) (after_digits base cs) (c ∷ cs) (length (c ∷ cs)) (omega (arith, after_digits-le base cs)) (omega arith))

-- behind the first digit less is left
number-less : (c : ℕ) (cs : List ℕ) → is_digit 10 c ≡ true → length (after_digits 10 (c ∷ cs)) ≤ length cs
number-less c cs digit = by (is_digit 10 c) digit
  where
    by : (b : Bool) → b ≡ true → length (cond b (after_digits 10 cs) (cond (eqb c 95 && begins_with_digit 10 cs) (after_digits 10 cs) (c ∷ cs))) ≤ length cs
    by true e = after_digits-le 10 cs
    by false e = absurd (true≢false (sym e))

after_sign-le : (cs ds : List ℕ) → length ds ≤ length cs → length (after_sign cs ds) ≤ length cs
after_sign-le cs [] le = omega arith
after_sign-le cs (d ∷ ds) le =
    either (is_digit 10 d) (after_digits 10 (d ∷ ds)) (cond ((eqb d 43 || eqb d 45) && begins_with_digit 10 ds) (after_digits 10 ds) cs) (length cs) (omega (arith, after_digits-le 10 (d ∷ ds), le)) (either ((eqb d 43 || eqb d 45) && begins_with_digit 10 ds) (after_digits 10 ds) cs (length cs) (omega (arith, after_digits-le 10 ds, le)) (omega arith))

after_exponent-le : (cs : List ℕ) → length (after_exponent cs) ≤ length cs
after_exponent-le [] = omega arith
after_exponent-le (c ∷ cs) =
    either (eqb c 101 || eqb c 69) (after_sign (c ∷ cs) cs) (c ∷ cs) (length (c ∷ cs)) (after_sign-le (c ∷ cs) cs (omega arith)) (omega arith)

abbrev left_of : Number → ℕ
left_of (whole n rest) = length rest
left_of (real rest) = length rest
left_of no_base = 0

either_number : (b : Bool) (x y : Number) (n : ℕ) → left_of x ≤ n → left_of y ≤ n → left_of (cond b x y) ≤ n
either_number true x y n x_le y_le = x_le
either_number false x y n x_le y_le = y_le

number_by-le : (n : ℕ) (cs : List ℕ) → left_of (number_by n cs) ≤ length cs
number_by-le n [] = omega arith
number_by-le n (c ∷ cs) =
    either_number (eqb c 46 && begins_with_digit 10 cs) (real (after_exponent (after_digits 10 cs))) _ (length (c ∷ cs)) (omega (arith, after_exponent-le (after_digits 10 cs), after_digits-le 10 cs)) (either_number (eqb c 35) _ (whole n (c ∷ cs)) (length (c ∷ cs)) (either_number (nat_le 2 n && nat_le n 36) _ no_base (length (c ∷ cs)) (either_number (begins_with_digit n cs) (whole (value_in n cs) (after_digits n cs)) (whole n (c ∷ cs)) (length (c ∷ cs)) (omega (arith, after_digits-le n cs)) (omega arith)) (omega arith)) (omega arith))

number_next-le : (here : List ℕ) (number : Number) (n : ℕ) → left_of number ≤ n → left_by (number_next here number) ≤ n
number_next-le here (whole m rest) n le = le
number_next-le here (real rest) n le = le
number_next-le here no_base n le = omega arith

-- Characters behind `$`

escaped-le : (here cs : List ℕ) (s : Step) → escape cs ≡ s → left_by (escaped_next here s) ≤ length cs
escaped-le here cs (stands c rest) e = omega (arith, character-shorter 39 c (92 ∷ cs) rest e)
escaped-le here cs (closing rest) e = omega arith
escaped-le here cs cut e = omega arith
escaped-le here cs wrong e = omega arith

character-le : (here cs : List ℕ) → left_by (character_next here cs) ≤ length cs
character-le here [] = omega arith
character-le here (c ∷ cs) =
    either_next (eqb c 92) (escaped_next (c ∷ cs) (escape cs)) (token (Integer c) cs) (length (c ∷ cs)) (omega (arith, escaped-le (c ∷ cs) cs (escape cs) refl)) (omega arith)

-- Names

name-le : (here name : List ℕ) (w : Option Word) (rest : List ℕ) → left_by (name_next here name w rest) ≤ length rest
name-le here name (Some w) rest = omega arith
name-le here name None rest =
    either_next (nat_lt 255 (length name)) (fault AtomTooLong here) (token (Atom name) rest) (length rest) (omega arith) (omega arith)

-- Marks

has_some : List ℕ → Bool
has_some [] = false
has_some (t ∷ ts) = true

behind-le : (ts cs rest : List ℕ) → behind ts cs ≡ Some rest → length rest ≤ length cs
behind-le [] cs rest e = omega (arith, ap length (same_Some cs rest e))
behind-le (t ∷ ts) [] rest e = absurd (none-some rest e)
behind-le (t ∷ ts) (c ∷ cs) rest e = by (eqb t c) e (behind-le ts cs rest)
  where
    by : (b : Bool) → cond b (behind ts cs) None ≡ Some rest → (behind ts cs ≡ Some rest → length rest ≤ length cs) → length rest ≤ length (c ∷ cs)
    by true h le = omega (arith, le h)
    by false h le = absurd (none-some rest h)

behind-less : (ts : List ℕ) (c : ℕ) (cs rest : List ℕ) → has_some ts ≡ true → behind ts (c ∷ cs) ≡ Some rest → length rest ≤ length cs
unfolding has_some
behind-less [] c cs rest some e = absurd (true≢false (sym some))
behind-less (t ∷ ts) c cs rest some e = by (eqb t c) e
  where
    by : (b : Bool) → cond b (behind ts cs) None ≡ Some rest → length rest ≤ length cs
    by true h = behind-le ts cs rest h
    by false h = absurd (none-some rest h)

among_on : (m : Mark) (c : ℕ) (cs : List ℕ) (found : Option (List ℕ)) (others : Option Marked) (r : Marked) → has_some (mark_text m) ≡ true → behind (mark_text m) (c ∷ cs) ≡ found → (others ≡ Some r → length r.rest ≤ length cs) → or_else m found others ≡ Some r → length r.rest ≤ length cs
among_on m c cs None others r some is later e = later e
among_on m c cs (Some rest) others r some is later e =
    omega (arith, behind-less (mark_text m) c cs rest some is, ap (λ x. length x.rest) (same_Some (record { mark = m; rest = rest }) r e))

among-less : (ms : List Mark) (c : ℕ) (cs : List ℕ) (r : Marked) → list_all (λ m. has_some (mark_text m)) ms ≡ true → mark_among ms (c ∷ cs) ≡ Some r → length r.rest ≤ length cs
among-less [] c cs r some e = absurd (none-some r e)
among-less (m ∷ ms) c cs r some e =
    let both = and_parts (has_some (mark_text m)) (list_all (λ k. has_some (mark_text k)) ms) some in
    among_on m c cs (behind (mark_text m) (c ∷ cs)) (mark_among ms (c ∷ cs)) r both.0 refl (among-less ms c cs r both.1) e

mark-less : (c : ℕ) (cs : List ℕ) (o : Option Marked) → mark_in (c ∷ cs) ≡ o → left_by (mark_next (c ∷ cs) o) ≤ length cs
unfolding mark_in has_some
mark-less c cs None e = omega arith
mark-less c cs (Some m) e = among-less all_marks c cs m refl e

-- Quotes

written-le : (q : ℕ) (cs vs here : List ℕ) → Written q cs vs here → length here ≤ length cs
written-le q cs [] here e = omega (arith, ap length e)
written-le q cs (v ∷ vs) here (left, one, others) =
    omega (arith, character-shorter q v cs left one, written-le q left vs here others)

rest_of : Step → List ℕ
rest_of (stands c rest) = []
rest_of (closing rest) = rest
rest_of cut = []
rest_of wrong = []

is_closing : Step → Bool
is_closing (stands c rest) = false
is_closing (closing rest) = true
is_closing cut = false
is_closing wrong = false

same_closing : (xs ys : List ℕ) → closing xs ≡ closing ys → xs ≡ ys
unfolding rest_of
same_closing xs ys e = ap rest_of e

-- no escape is a closing quote
either_step : (b : Bool) (x y : Step) → is_closing x ≡ false → is_closing y ≡ false → is_closing (cond b x y) ≡ false
either_step true x y x_is y_is = x_is
either_step false x y x_is y_is = y_is

braced-closes : (ds cs : List ℕ) → is_closing (braced ds cs) ≡ false
unfolding is_closing
braced-closes ds [] = refl
braced-closes [] (c ∷ cs) = refl
braced-closes (d ∷ ds) (c ∷ cs) =
    either_step (eqb c 125 && scalar (digits_value 16 (d ∷ ds))) (stands (digits_value 16 (d ∷ ds)) cs) wrong refl refl

two-closes : (c : ℕ) (cs : List ℕ) → is_closing (two_digits c cs) ≡ false
unfolding is_closing
two-closes c [] = refl
two-closes c (d ∷ cs) = either_step (is_digit 16 d) (stands (digits_value 16 (c ∷ d ∷ [])) cs) wrong refl refl

hexadecimal-closes : (cs : List ℕ) → is_closing (hexadecimal cs) ≡ false
unfolding is_closing
hexadecimal-closes [] = refl
hexadecimal-closes (c ∷ cs) =
    either_step (eqb c 123) (braced (front (is_digit 16) cs) (after_front (is_digit 16) cs)) (cond (is_digit 16 c) (two_digits c cs) wrong) (braced-closes (front (is_digit 16) cs) (after_front (is_digit 16) cs)) (either_step (is_digit 16 c) (two_digits c cs) wrong (two-closes c cs) refl)

control-closes : (cs : List ℕ) → is_closing (control cs) ≡ false
unfolding is_closing
control-closes [] = refl
control-closes (c ∷ cs) = refl

escape-closes : (cs : List ℕ) → is_closing (escape cs) ≡ false
unfolding is_closing
escape-closes [] = refl
escape-closes (c ∷ cs) =
    either_step (is_digit 8 c) (octal c cs) (cond (eqb c 120) (hexadecimal cs) (cond (eqb c 94) (control cs) (stands (named c) cs))) refl (either_step (eqb c 120) (hexadecimal cs) (cond (eqb c 94) (control cs) (stands (named c) cs)) (hexadecimal-closes cs) (either_step (eqb c 94) (control cs) (stands (named c) cs) (control-closes cs) refl))

closing-less : (q : ℕ) (cs rest : List ℕ) → character q cs ≡ closing rest → length rest ≤ length cs
unfolding is_closing
closing-less q [] rest e = absurd (true≢false (sym (ap is_closing e)))
closing-less q (c ∷ cs) rest e = by (eqb c q) e
  where
    by : (b : Bool) → cond b (closing cs) (cond (eqb c 92) (escape cs) (stands c cs)) ≡ closing rest → length rest ≤ length (c ∷ cs)
    by true h = omega (arith, ap length (same_closing cs rest h))
    by false h =
        absurd (true≢false (sym (ap is_closing h) ∙ either_step (eqb c 92) (escape cs) (stands c cs) (escape-closes cs) refl))

quoted-le : (q : ℕ) (cs vs rest : List ℕ) → IsQuoted q cs (closed vs rest) → length rest ≤ length cs
quoted-le q cs vs rest (here, is, closes) = omega (arith, written-le q cs vs here is, closing-less q here rest closes)

atom-le : (here cs : List ℕ) (q : Quoted) → IsQuoted 39 cs q → left_by (atom_next here q) ≤ length cs
atom-le here cs (closed vs rest) is =
    either_next (nat_lt 255 (length vs)) (fault AtomTooLong here) (token (Atom vs) rest) (length cs) (omega arith) (quoted-le 39 cs vs rest is)
atom-le here cs unclosed is = omega arith
atom-le here cs (bad_escape at) is = omega arith

string-le : (here cs : List ℕ) (q : Quoted) → IsQuoted 34 cs q → left_by (string_next here q) ≤ length cs
string-le here cs (closed vs rest) is = quoted-le 34 cs vs rest is
string-le here cs unclosed is = omega arith
string-le here cs (bad_escape at) is = omega arith

-- What comes next

plain-le : (c : ℕ) (cs : List ℕ) → left_by (plain_next c cs) ≤ length cs
plain-le c cs = by (is_digit 10 c) refl
  where
    others : left_by (cond (eqb c 36) (character_next (c ∷ cs) cs) (cond (is_small c) (name_next (c ∷ cs) (c ∷ front is_name_char cs) (word_of (c ∷ front is_name_char cs)) (after_front is_name_char cs)) (cond (begins_variable c) (token (Variable (c ∷ front is_name_char cs)) (after_front is_name_char cs)) (cond (eqb c 46 && ends_form cs) (token Dot cs) (mark_next (c ∷ cs) (mark_in (c ∷ cs))))))) ≤ length cs
    others =
        either_next (eqb c 36) _ _ (length cs) (character-le (c ∷ cs) cs) (either_next (is_small c) _ _ (length cs) (omega (arith, name-le (c ∷ cs) (c ∷ front is_name_char cs) (word_of (c ∷ front is_name_char cs)) (after_front is_name_char cs), after_front-le is_name_char cs)) (either_next (begins_variable c) _ _ (length cs) (after_front-le is_name_char cs) (either_next (eqb c 46 && ends_form cs) _ _ (length cs) (omega arith) (mark-less c cs (mark_in (c ∷ cs)) refl))))

    by : (b : Bool) → is_digit 10 c ≡ b → left_by (plain_next c cs) ≤ length cs
    by true e =
        either_next (is_digit 10 c) (number_next (c ∷ cs) (number_in (c ∷ cs))) _ (length cs) (number_next-le (c ∷ cs) (number_in (c ∷ cs)) (length cs) (omega (arith, number_by-le (value_in 10 (c ∷ cs)) (after_digits 10 (c ∷ cs)), number-less c cs e))) others
    by false e = subst (λ d. left_by (cond d (number_next (c ∷ cs) (number_in (c ∷ cs))) (cond (eqb c 36) (character_next (c ∷ cs) cs) (cond (is_small c) (name_next (c ∷ cs) (c ∷ front is_name_char cs) (word_of (c ∷ front is_name_char cs)) (after_front is_name_char cs)) (cond (begins_variable c) (token (Variable (c ∷ front is_name_char cs)) (after_front is_name_char cs)) (cond (eqb c 46 && ends_form cs) (token Dot cs) (mark_next (c ∷ cs) (mark_in (c ∷ cs)))))))) ≤ length cs) (sym e) others

begun-le : (single double : Bool) (c : ℕ) (cs : List ℕ) (next : Next) → NextBy single double c cs next → left_by next ≤ length cs
begun-le true double c cs next by = subst (λ n. left_by n ≤ length cs) (sym by.2) (atom-le (c ∷ cs) cs by.0 by.1)
begun-le false true c cs next by =
    subst (λ n. left_by n ≤ length cs) (sym by.2) (either_next (begins_two_quotes cs) (fault Unsupported (c ∷ cs)) (string_next (c ∷ cs) by.0) (length cs) (omega arith) (string-le (c ∷ cs) cs by.0 by.1))
begun-le false false c cs next by = subst (λ n. left_by n ≤ length cs) (sym by) (plain-le c cs)

is_token : Next → Bool
is_token ends = false
is_token (token t rest) = true
is_token (fault k at) = false

comes-less : (cs : List ℕ) (t : Token) (rest : List ℕ) → Comes cs (token t rest) → length rest < length cs
unfolding is_token
comes-less [] t rest comes = absurd (true≢false (ap is_token comes))
comes-less (c ∷ cs) t rest comes = omega (arith, begun-le (eqb c 39) (eqb c 34) c cs (token t rest) comes)

-- behind a token, with the gap before it
pub token-less : (cs : List ℕ) (t : Token) (rest : List ℕ) → Comes (after_gap cs) (token t rest) → length rest < length cs
token-less cs t rest comes = omega (arith, comes-less (after_gap cs) t rest comes, after_gap-le false cs)
