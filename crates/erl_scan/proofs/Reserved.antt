-- Reserved words, by the bytes of a text.
use Rattle.std.proofs.Common.{◌≡◌, ℕ, Bool, true, false, List, [], ◌∷◌, Option, Some, None, MatchOption, inl, inr, ◌&&◌, refl, sym, ap, ◌∙◌}
use Rattle.std.specs.Prelude.{encode_utf8_all, nat_lt, nat_eq, if◌then◌else◌}
use Rattle.std.specs.Str.{IsAscii, IsUtf8, chars, bytes_eq}
use Rattle.std.proofs.lemmas.Bool.{cases_Bool, and_parts, ltb-true, eq-eqb}
use Rattle.std.proofs.lemmas.Slice.Eq.{bytes_eq-Decides}
use Rattle.std.proofs.lemmas.Str.{encodes-chars}
use Rattle.std.proofs.lemmas.Str.Ascii.{IsAscii-nil, IsAscii-cons, encodes-IsAscii}
use Rattle.erl_chars.specs.Cursor.{first_of}
use Rattle.erl_scan.specs.declared.word.Word.{Word}
use Rattle.erl_scan.specs.declared.word.Word.TheVariants.{After, And, AndAlso, BitAnd, Begin, BitNot, BitOr, ShiftLeft, ShiftRight, BitXor, Case, Catch, Cond, Div, End, Fun, If, Let, Not, Of, Or, OrElse, Receive, Rem, Try, When, Xor}
use Rattle.erl_scan.specs.Words.{word_text, all_words, word_among, word_of}

word_of-text : (w : Word) → Some w ≡ word_of (chars (word_text w))
unfolding word_of chars
word_of-text After = refl
word_of-text And = refl
word_of-text AndAlso = refl
word_of-text BitAnd = refl
word_of-text Begin = refl
word_of-text BitNot = refl
word_of-text BitOr = refl
word_of-text ShiftLeft = refl
word_of-text ShiftRight = refl
word_of-text BitXor = refl
word_of-text Case = refl
word_of-text Catch = refl
word_of-text Cond = refl
word_of-text Div = refl
word_of-text End = refl
word_of-text Fun = refl
word_of-text If = refl
word_of-text Let = refl
word_of-text Not = refl
word_of-text Of = refl
word_of-text Or = refl
word_of-text OrElse = refl
word_of-text Receive = refl
word_of-text Rem = refl
word_of-text Try = refl
word_of-text When = refl
word_of-text Xor = refl

-- a text that is a reserved word
pub is_reserved : (w : Word) (bs : List ℕ) → bs ≡ word_text w → Some w ≡ word_of (chars bs)
is_reserved w bs e = word_of-text w ∙ ap (λ (x : List ℕ). word_of (chars x)) (sym e)

abbrev is_ascii_text : List ℕ → Bool
is_ascii_text [] = true
is_ascii_text (b ∷ bs) = nat_lt b 128 && is_ascii_text bs

IsAscii-from_test : (bs : List ℕ) → is_ascii_text bs ≡ true → IsAscii bs
IsAscii-from_test [] passes = IsAscii-nil
IsAscii-from_test (b ∷ bs) passes =
    let parts = and_parts _ _ passes in IsAscii-cons b bs (ltb-true b 128 parts.0) (IsAscii-from_test bs parts.1)

is_ascii-text : (w : Word) → is_ascii_text (word_text w) ≡ true
is_ascii-text After = refl
is_ascii-text And = refl
is_ascii-text AndAlso = refl
is_ascii-text BitAnd = refl
is_ascii-text Begin = refl
is_ascii-text BitNot = refl
is_ascii-text BitOr = refl
is_ascii-text ShiftLeft = refl
is_ascii-text ShiftRight = refl
is_ascii-text BitXor = refl
is_ascii-text Case = refl
is_ascii-text Catch = refl
is_ascii-text Cond = refl
is_ascii-text Div = refl
is_ascii-text End = refl
is_ascii-text Fun = refl
is_ascii-text If = refl
is_ascii-text Let = refl
is_ascii-text Not = refl
is_ascii-text Of = refl
is_ascii-text Or = refl
is_ascii-text OrElse = refl
is_ascii-text Receive = refl
is_ascii-text Rem = refl
is_ascii-text Try = refl
is_ascii-text When = refl
is_ascii-text Xor = refl

encodes-text : (w : Word) → encode_utf8_all (word_text w) ≡ word_text w
encodes-text w = encodes-IsAscii (word_text w) (IsAscii-from_test (word_text w) (is_ascii-text w))

-- By the first letter

abbrev pub letter : Word → ℕ
letter After = 97
letter And = 97
letter AndAlso = 97
letter BitAnd = 98
letter Begin = 98
letter BitNot = 98
letter BitOr = 98
letter ShiftLeft = 98
letter ShiftRight = 98
letter BitXor = 98
letter Case = 99
letter Catch = 99
letter Cond = 99
letter Div = 100
letter End = 101
letter Fun = 102
letter If = 105
letter Let = 108
letter Not = 110
letter Of = 111
letter Or = 111
letter OrElse = 111
letter Receive = 114
letter Rem = 114
letter Try = 116
letter When = 119
letter Xor = 120

first-text : (w : Word) → first_of (chars (word_text w)) ≡ Some (letter w)
unfolding chars
first-text After = refl
first-text And = refl
first-text AndAlso = refl
first-text BitAnd = refl
first-text Begin = refl
first-text BitNot = refl
first-text BitOr = refl
first-text ShiftLeft = refl
first-text ShiftRight = refl
first-text BitXor = refl
first-text Case = refl
first-text Catch = refl
first-text Cond = refl
first-text Div = refl
first-text End = refl
first-text Fun = refl
first-text If = refl
first-text Let = refl
first-text Not = refl
first-text Of = refl
first-text Or = refl
first-text OrElse = refl
first-text Receive = refl
first-text Rem = refl
first-text Try = refl
first-text When = refl
first-text Xor = refl

letter_is : (w : Word) (bs : List ℕ) (b : ℕ) → first_of (chars bs) ≡ Some b → bs ≡ word_text w → letter w ≡ b
letter_is w bs b first e =
    let same : Some (letter w) ≡ Some b = sym (first-text w) ∙ ap (λ (x : List ℕ). first_of (chars x)) (sym e) ∙ first in
    cc

-- a text that begins with another letter is another word
other_letter : (w : Word) (bs : List ℕ) (b : ℕ) → first_of (chars bs) ≡ Some b → nat_eq (letter w) b ≡ false → bs ≡ word_text w → ⊥
other_letter w bs b first other e =
    let is = letter_is w bs b first e in
    let yes : nat_eq (letter w) b ≡ true = eq-eqb (letter w) b is in
    cc

-- those of some words that begin with a letter
abbrev pub those : ℕ → List Word → List Word
those b [] = []
those b (w ∷ ws) = if nat_eq (letter w) b then w ∷ those b ws else those b ws

-- a text is none of some words
abbrev pub IsNone : List ℕ → List Word → Type 0
IsNone bs [] = Unit {0}
IsNone bs (w ∷ ws) = (bs ≡ word_text w → ⊥) × IsNone bs ws

none_of_all : (b : ℕ) (bs : List ℕ) → first_of (chars bs) ≡ Some b → (ws : List Word) → IsNone bs (those b ws) → IsNone bs ws
none_of_all b bs first [] none = tt
none_of_all b bs first (w ∷ ws) none =
    elim (cases_Bool (nat_eq (letter w) b)) [
      | inl e ↦ let here = rw e at none in (here.0, none_of_all b bs first ws here.1)
      | inr e ↦ (other_letter w bs b first e, none_of_all b bs first ws (rw e at none))
    ]

none_among : (ws : List Word) (bs : List ℕ) → IsUtf8 bs → IsNone bs ws → None ≡ word_among ws (chars bs)
none_among [] bs utf8 none = refl
none_among (w ∷ ws) bs utf8 none =
    elim (cases_Bool (bytes_eq (word_text w) (chars bs))) [
      | inl e ↦ absurd (none.0 (sym (encodes-chars bs utf8) ∙ ap encode_utf8_all (sym ((bytes_eq-Decides (word_text w) (chars bs)).0 e)) ∙ encodes-text w))
      | inr e ↦ rw e (none_among ws bs utf8 none.1)
    ]

-- a text that is none of the words with its first letter
pub is_none_with : (b : ℕ) (bs : List ℕ) → IsUtf8 bs → first_of (chars bs) ≡ Some b → IsNone bs (those b all_words) → None ≡ word_of (chars bs)
unfolding word_of
is_none_with b bs utf8 first none = none_among all_words bs utf8 (none_of_all b bs first all_words none)

none_else : (b : ℕ) (bs : List ℕ) → first_of (chars bs) ≡ Some b → ((w : Word) → letter w ≡ b → ⊥) → (ws : List Word) → IsNone bs ws
none_else b bs first other [] = tt
none_else b bs first other (w ∷ ws) = (λ e. other w (letter_is w bs b first e), none_else b bs first other ws)

-- a text that begins with a letter of none of the words
pub is_none_else : (b : ℕ) (bs : List ℕ) → IsUtf8 bs → first_of (chars bs) ≡ Some b → ((w : Word) → letter w ≡ b → ⊥) → None ≡ word_of (chars bs)
unfolding word_of
is_none_else b bs utf8 first other = none_among all_words bs utf8 (none_else b bs first other all_words)

none_of_one : (ws : List Word) (w : Word) (bs : List ℕ) → ws ≡ w ∷ [] → (bs ≡ word_text w → ⊥) → IsNone bs ws
none_of_one ws w bs one h = rw one (h, tt)

-- a text by the only word with its first letter
pub is_only : (w : Word) (b : ℕ) (bs : List ℕ) (r : Option Word) → IsUtf8 bs → first_of (chars bs) ≡ Some b → those b all_words ≡ w ∷ [] → MatchOption r (bs ≡ word_text w → ⊥) (λ it. (it ≡ w) × (bs ≡ word_text w)) → r ≡ word_of (chars bs)
is_only w b bs None utf8 first one h = is_none_with b bs utf8 first (none_of_one (those b all_words) w bs one h)
is_only w b bs (Some v) utf8 first one h = rw h.0 (is_reserved w bs h.1)

no_first : (cs : List ℕ) → None ≡ first_of cs → cs ≡ []
no_first [] e = refl
no_first (c ∷ cs) e = cc

-- an empty text is none
pub is_no_text : (bs : List ℕ) → None ≡ first_of (chars bs) → None ≡ word_of (chars bs)
unfolding word_of
is_no_text bs none = ap word_of (sym (no_first (chars bs) none))
