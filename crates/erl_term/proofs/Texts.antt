-- Lemmas on the texts of terms, and on their bytes.
use Rattle.std.proofs.Common.{true≢false, ◌≡◌, ℕ, ℤ, ◌+◌, ◌/◌, ◌%◌, ◌^◌, ◌<◌, ◌≤◌, Bool, true, false, not, ◌&&◌, ◌||◌, nat_le, List, [], ◌∷◌, ◌++◌, length, get_or, take, subst, ◌⊎◌, inl, inr, codes, Option, Some, None, option_map, append_assoc, sym, ap, ◌∙◌, refl, arith}
use Rattle.std.specs.Option.{option_and_then, option_to_list}
use Rattle.std.specs.List.{list_all, list_any, flat_map}
use Rattle.std.specs.Str.{IsUtf8, IsAscii, chars, bytes_eq}
use Rattle.std.specs.Fmt.{decimal, signed_decimal}
use Rattle.std.proofs.lemmas.List.{append-nil, take_more, flat_map_more}
use Rattle.std.proofs.lemmas.List.Concat.{flat_map-append}
use Rattle.std.proofs.lemmas.Str.{encodes-append, encodes-IsAscii, encodes-chars, IsAscii-append}
use Rattle.std.proofs.lemmas.Str.Ascii.{IsAscii-nil, IsAscii-cons}
use Rattle.std.proofs.lemmas.Fmt.{IsAscii-decimal, IsAscii-signed}
use Rattle.std.proofs.lemmas.Bool.{cond-true, cond-false}
use Rattle.std.proofs.lemmas.Slice.Eq.{bytes_eq-Decides}
use Rattle.std.proofs.lemmas.Bool.Decides.{nat_tests, leb_tells}
use lib.Signed.{mag}
use lib.Utf8.{encode}
use Rattle.erl_term.specs.declared.term.Term.{Term}
use Rattle.erl_term.specs.Tree.{Trees, list, none, more}
use Rattle.erl_term.specs.Term.{tree, trees}
use Rattle.erl_term.specs.Text.{utf8, atom_text, hex, hex_digit, quoted_char, begins_lower, is_name_char, quoted_words, is_quoted_word, is_plain, printable_char, printable, string_char, string_text, list_text, text, elements_text, others_text}
use Rattle.erl_term.specs.Strings.{printable_chars, has_chars, is_like_word}

-- Bytes

pub utf8-append : (cs ds : List ℕ) → utf8 (cs ++ ds) ≡ utf8 cs ++ utf8 ds
unfolding utf8
utf8-append cs ds = encodes-append cs ds

pub utf8-cons : (c : ℕ) (cs : List ℕ) → utf8 (c ∷ cs) ≡ encode c ++ utf8 cs
unfolding utf8
utf8-cons c cs = refl

pub utf8-nil : utf8 [] ≡ []
unfolding utf8
utf8-nil = refl

pub utf8-one : (c : ℕ) → utf8 (c ∷ []) ≡ encode c
utf8-one c = utf8-cons c [] ∙ ap (λ bs. encode c ++ bs) utf8-nil ∙ append-nil (encode c)

pub utf8-ascii : (cs : List ℕ) → IsAscii cs → utf8 cs ≡ cs
unfolding utf8
utf8-ascii cs ascii = encodes-IsAscii cs ascii

pub utf8-chars : (bs : List ℕ) → IsUtf8 bs → utf8 (chars bs) ≡ bs
unfolding utf8
utf8-chars bs whole = encodes-chars bs whole

pub utf8-byte : (c : ℕ) → c < 128 → utf8 (c ∷ []) ≡ c ∷ []
utf8-byte c small = utf8-ascii (c ∷ []) (IsAscii-cons c [] small IsAscii-nil)

pub utf8-cons-byte : (c : ℕ) (cs : List ℕ) → c < 128 → utf8 (c ∷ cs) ≡ c ∷ utf8 cs
utf8-cons-byte c cs small = utf8-append (c ∷ []) cs ∙ ap (λ bs. bs ++ utf8 cs) (utf8-byte c small)

-- Numbers

hex_digit-ascii : (n : ℕ) → n < 16 → hex_digit n < 128
hex_digit-ascii n small = grind (arith, nat_tests)

hex-ascii : (n : ℕ) → n < 256 → IsAscii (hex n)
hex-ascii n small =
    elim (leb_tells n 15) [
      | inl below ↦
          subst IsAscii (sym (cond-true (nat_le n 15) (hex_digit n ∷ []) (hex_digit (n / 16) ∷ hex_digit (n % 16) ∷ []) below.0)) (IsAscii-cons (hex_digit n) [] (hex_digit-ascii n (omega (arith, below.1))) IsAscii-nil)
      | inr above ↦
          subst IsAscii (sym (cond-false (nat_le n 15) (hex_digit n ∷ []) (hex_digit (n / 16) ∷ hex_digit (n % 16) ∷ []) above.0)) (IsAscii-cons (hex_digit (n / 16)) (hex_digit (n % 16) ∷ []) (hex_digit-ascii (n / 16) (omega arith)) (IsAscii-cons (hex_digit (n % 16)) [] (hex_digit-ascii (n % 16) (omega arith)) IsAscii-nil))
    ]

ascii-three : (a b c : ℕ) → a < 128 → b < 128 → c < 128 → IsAscii (a ∷ b ∷ c ∷ [])
ascii-three a b c first second third =
    IsAscii-cons a (b ∷ c ∷ []) first (IsAscii-cons b (c ∷ []) second (IsAscii-cons c [] third IsAscii-nil))

pub integer-bytes : (n : ℤ) → mag n < 2 ^ 63 → utf8 (signed_decimal n) ≡ signed_decimal n
integer-bytes n small = utf8-ascii (signed_decimal n) (IsAscii-signed n small)

-- a process identifier
pub pid-bytes : (n : ℕ) → n < 2 ^ 64 → utf8 (codes "<0." ++ (decimal n ++ codes ".0>")) ≡ codes "<0." ++ (decimal n ++ codes ".0>")
pid-bytes n small =
    utf8-ascii (codes "<0." ++ (decimal n ++ codes ".0>")) (IsAscii-append (codes "<0.") (decimal n ++ codes ".0>") (ascii-three 60 48 46 (omega arith) (omega arith) (omega arith)) (IsAscii-append (decimal n) (codes ".0>") (IsAscii-decimal n small) (ascii-three 46 48 62 (omega arith) (omega arith) (omega arith))))

-- Atoms

pub quoted-escaped : (c : ℕ) → (c ≡ 39) ⊎ (c ≡ 92) → quoted_char c ≡ 92 ∷ c ∷ []
quoted-escaped c either =
    elim either [
      | inl e ↦ ap quoted_char e ∙ ap (λ d. 92 ∷ d ∷ []) (sym e)
      | inr e ↦ ap quoted_char e ∙ ap (λ d. 92 ∷ d ∷ []) (sym e)
    ]

pub quoted-control : (c : ℕ) → (c ≡ 39 → ⊥) → (c ≡ 92 → ⊥) → (c < 32) ⊎ (c ≡ 127) → quoted_char c ≡ codes "\\x{" ++ (hex c ++ 125 ∷ [])
quoted-control c other neither either = grind (arith, nat_tests)

pub quoted-plain : (c : ℕ) → (c ≡ 39 → ⊥) → (c ≡ 92 → ⊥) → 32 ≤ c → (c ≡ 127 → ⊥) → quoted_char c ≡ c ∷ []
quoted-plain c other neither above nor = grind (arith, nat_tests)

-- the bytes of each kind of quoted character
pub escaped-bytes : (c : ℕ) → (c ≡ 39) ⊎ (c ≡ 92) → utf8 (quoted_char c) ≡ 92 ∷ c ∷ []
escaped-bytes c either =
    let small : c < 128 = elim either [ inl is ↦ omega (arith, is) | inr is ↦ omega (arith, is) ] in
    ap utf8 (quoted-escaped c either) ∙ utf8-ascii (92 ∷ c ∷ []) (IsAscii-cons 92 (c ∷ []) (omega arith) (IsAscii-cons c [] small IsAscii-nil))

pub plain-bytes : (c : ℕ) → (c ≡ 39 → ⊥) → (c ≡ 92 → ⊥) → 32 ≤ c → (c ≡ 127 → ⊥) → utf8 (c ∷ []) ≡ utf8 (quoted_char c)
plain-bytes c other neither above nor = ap utf8 (sym (quoted-plain c other neither above nor))

pub control-bytes : (c : ℕ) → (c ≡ 39 → ⊥) → (c ≡ 92 → ⊥) → (c < 32) ⊎ (c ≡ 127) → utf8 (quoted_char c) ≡ codes "\\x{" ++ (hex c ++ 125 ∷ [])
control-bytes c other neither either =
    let small : c < 128 = elim either [ inl below ↦ omega (arith, below) | inr is ↦ omega (arith, is) ] in
    let ascii : IsAscii (codes "\\x{" ++ (hex c ++ 125 ∷ [])) = IsAscii-append (codes "\\x{") (hex c ++ 125 ∷ []) (ascii-three 92 120 123 (omega arith) (omega arith) (omega arith)) (IsAscii-append (hex c) (125 ∷ []) (hex-ascii c (omega arith)) (IsAscii-cons 125 [] (omega arith) IsAscii-nil)) in
    ap utf8 (quoted-control c other neither either) ∙ utf8-ascii (codes "\\x{" ++ (hex c ++ 125 ∷ [])) ascii

-- one character more between quotes
pub quoted-more : (cs : List ℕ) (c : ℕ) → utf8 (flat_map quoted_char cs) ++ utf8 (quoted_char c) ≡ utf8 (flat_map quoted_char (cs ++ c ∷ []))
quoted-more cs c =
    sym (utf8-append (flat_map quoted_char cs) (quoted_char c)) ∙ ap utf8 (flat_map_more quoted_char [] cs c)

name_char-ascii : (c : ℕ) → is_name_char c ≡ true → c < 128
name_char-ascii c is = grind (arith, nat_tests)

pub and_parts : (a b : Bool) → (a && b) ≡ true → (a ≡ true) × (b ≡ true)
and_parts true b e = (refl, e)
and_parts false b e = absurd (let no : ⊥ = cc in no)

pub names-ascii : (cs : List ℕ) → list_all is_name_char cs ≡ true → IsAscii cs
names-ascii [] all = IsAscii-nil
names-ascii (c ∷ cs) all =
    let both = and_parts (is_name_char c) (list_all is_name_char cs) all in
    IsAscii-cons c cs (name_char-ascii c both.0) (names-ascii cs both.1)

-- characters that are all ASCII are their bytes
pub names-bytes : (bs : List ℕ) → IsUtf8 bs → list_all is_name_char (chars bs) ≡ true → chars bs ≡ bs
names-bytes bs whole all =
    sym (encodes-IsAscii (chars bs) (names-ascii (chars bs) all)) ∙ encodes-chars bs whole

pub plain-by_words : (cs bs : List ℕ) (r : Bool) → begins_lower cs ≡ true → list_all is_name_char cs ≡ true → cs ≡ bs → r ≡ is_quoted_word bs → not r ≡ is_plain cs
plain-by_words cs bs r begins all same is =
    sym (ap (λ b. b && (list_all is_name_char cs && not (is_quoted_word cs))) begins ∙ ap (λ b. b && not (is_quoted_word cs)) all ∙ ap (λ ds. not (is_quoted_word ds)) same ∙ ap not (sym is))

-- the words that get quotes are short, and of lower-case letters alone
quoted_words-alike : list_all is_like_word quoted_words ≡ true
quoted_words-alike = refl

word-alike : (ws : List (List ℕ)) (bs : List ℕ) → list_all is_like_word ws ≡ true → is_like_word bs ≡ false → list_any (λ w. bytes_eq w bs) ws ≡ false
word-alike [] bs all other = refl
word-alike (w ∷ ws) bs all other =
    let both = and_parts (is_like_word w) (list_all is_like_word ws) all in
    by (bytes_eq w bs) refl (word-alike ws bs both.1 other) both.0
  where
    by : (b : Bool) → bytes_eq w bs ≡ b → list_any (λ v. bytes_eq v bs) ws ≡ false → is_like_word w ≡ true → b || list_any (λ v. bytes_eq v bs) ws ≡ false
    by true is rest alike = absurd (true≢false (sym alike ∙ ap is_like_word ((bytes_eq-Decides w bs).0 is) ∙ other))
    by false is rest alike = rest

pub other-unquoted : (bs : List ℕ) → is_like_word bs ≡ false → is_quoted_word bs ≡ false
unfolding is_quoted_word
other-unquoted bs other = word-alike quoted_words bs quoted_words-alike other

-- Elements

pub no-elements : (ts : List Term) → length ts ≡ 0 → elements_text (trees ts) ≡ []
no-elements [] is = refl
no-elements (t ∷ ts) is = absurd (omega (arith, is))

pub others-push : (ts : List Term) (t : Term) → others_text (trees (ts ++ t ∷ [])) ≡ others_text (trees ts) ++ 44 ∷ text (tree t)
others-push [] t = ap (λ cs. 44 ∷ cs) (append-nil (text (tree t)))
others-push (u ∷ us) t =
    ap (λ cs. 44 ∷ (text (tree u) ++ cs)) (others-push us t) ∙ ap (λ cs. 44 ∷ cs) (sym (append_assoc (text (tree u)) (others_text (trees us)) (44 ∷ text (tree t))))

-- Strings

-- a row's characters, from those of its first term and of the others
abbrev joined : Option ℕ → Option (List ℕ) → Option (List ℕ)
joined o r = option_and_then (λ c. option_map (λ cs. c ∷ cs) r) o

chars_from_joined : (o : Option ℕ) (r : Option (List ℕ)) (ds cs : List ℕ) → ((es : List ℕ) → r ≡ Some es → ds ≡ es) → joined o r ≡ Some cs → option_to_list o ++ ds ≡ cs
chars_from_joined None r ds cs h e = absurd (let no : ⊥ = cc in no)
chars_from_joined (Some c) None ds cs h e = absurd (let no : ⊥ = cc in no)
chars_from_joined (Some c) (Some es) ds cs h e = let here : ds ≡ es = h es refl in cc

-- where all terms have characters, the characters are all
pub printable-chars : (ts : Trees) (cs : List ℕ) → printable ts ≡ Some cs → printable_chars ts ≡ cs
printable-chars none cs e = cc
printable-chars (more t ts) cs e =
    chars_from_joined (printable_char t) (printable ts) (printable_chars ts) cs (λ es is. printable-chars ts es is) e

string_by_chars : (o : Option (List ℕ)) (ds es : List ℕ) → ((cs : List ℕ) → o ≡ Some cs → ds ≡ cs) → has_chars o ≡ true → list_text o es ≡ string_text ds
string_by_chars None ds es h is = absurd (let no : ⊥ = cc in no)
string_by_chars (Some []) ds es h is = absurd (let no : ⊥ = cc in no)
string_by_chars (Some (c ∷ cs)) ds es h is = sym (ap string_text (h (c ∷ cs) refl))

-- a list's text, where it is a string
pub list-string : (ts : Trees) → has_chars (printable ts) ≡ true → text (list ts) ≡ string_text (printable_chars ts)
list-string ts is = string_by_chars (printable ts) (printable_chars ts) (elements_text ts) (printable-chars ts) is

elements_by_chars : (o : Option ℕ) (r : Option (List ℕ)) (es : List ℕ) → has_chars (joined o r) ≡ false → list_text (joined o r) es ≡ 91 ∷ (es ++ 93 ∷ [])
elements_by_chars None r es is = refl
elements_by_chars (Some c) None es is = refl
elements_by_chars (Some c) (Some cs) es is = absurd (let no : ⊥ = cc in no)

-- and where it is none
pub list-elements : (ts : Trees) → has_chars (printable ts) ≡ false → text (list ts) ≡ 91 ∷ (elements_text ts ++ 93 ∷ [])
list-elements none is = refl
list-elements (more t ts) is = elements_by_chars (printable_char t) (printable ts) (elements_text (more t ts)) is

-- Loops over terms

take_here : (items : List Term) (i : ℕ) (t : Term) → i < length items → t ≡ get_or items i t → take (i + 1) items ≡ take i items ++ t ∷ []
take_here items i t within is = take_more items i t within ∙ ap (λ u. take i items ++ u ∷ []) (sym is)

chars-push : (ts : List Term) (t : Term) → printable_chars (trees (ts ++ t ∷ [])) ≡ printable_chars (trees ts) ++ option_to_list (printable_char (tree t))
chars-push [] t = append-nil (option_to_list (printable_char (tree t)))
chars-push (u ∷ us) t =
    ap (λ cs. option_to_list (printable_char (tree u)) ++ cs) (chars-push us t) ∙ sym (append_assoc (option_to_list (printable_char (tree u))) (printable_chars (trees us)) (option_to_list (printable_char (tree t))))

-- the characters of the terms so far, and of the next
pub chars-more : (items : List Term) (i : ℕ) (t : Term) → i < length items → t ≡ get_or items i t → utf8 (flat_map string_char (printable_chars (trees (take i items)))) ++ utf8 (flat_map string_char (option_to_list (printable_char (tree t)))) ≡ utf8 (flat_map string_char (printable_chars (trees (take (i + 1) items))))
chars-more items i t within is =
    let cs = printable_chars (trees (take i items)) in
    let ds = option_to_list (printable_char (tree t)) in
    sym (utf8-append (flat_map string_char cs) (flat_map string_char ds)) ∙ ap utf8 (sym (flat_map-append string_char cs ds)) ∙ ap (λ es. utf8 (flat_map string_char es)) (sym (chars-push (take i items) t)) ∙ ap (λ ts. utf8 (flat_map string_char (printable_chars (trees ts)))) (sym (take_here items i t within is))

-- the texts of the terms so far, each behind a comma, and of the next
pub others-more : (items : List Term) (i : ℕ) (t : Term) → i < length items → t ≡ get_or items i t → utf8 (others_text (trees (take i items))) ++ utf8 (44 ∷ text (tree t)) ≡ utf8 (others_text (trees (take (i + 1) items)))
others-more items i t within is =
    sym (utf8-append (others_text (trees (take i items))) (44 ∷ text (tree t))) ∙ ap utf8 (sym (others-push (take i items) t)) ∙ ap (λ ts. utf8 (others_text (trees ts))) (sym (take_here items i t within is))

-- a text between two characters
pub between-bytes : (a b : ℕ) (cs : List ℕ) → a < 128 → b < 128 → ((a ∷ []) ++ utf8 cs) ++ (b ∷ []) ≡ utf8 (a ∷ (cs ++ b ∷ []))
between-bytes a b cs first last =
    ap (λ bs. a ∷ (utf8 cs ++ bs)) (sym (utf8-byte b last)) ∙ ap (λ bs. a ∷ bs) (sym (utf8-append cs (b ∷ []))) ∙ sym (utf8-cons-byte a (cs ++ b ∷ []) first)

-- Atoms, whole

pub atom-plain : (bs : List ℕ) → IsUtf8 bs → is_plain (chars bs) ≡ true → utf8 (atom_text (chars bs)) ≡ bs
atom-plain bs whole is =
    ap utf8 (cond-true (is_plain (chars bs)) (chars bs) (39 ∷ (flat_map quoted_char (chars bs) ++ 39 ∷ [])) is) ∙ utf8-chars bs whole

pub atom-quoted : (cs : List ℕ) → is_plain cs ≡ false → atom_text cs ≡ 39 ∷ (flat_map quoted_char cs ++ 39 ∷ [])
atom-quoted cs is = cond-false (is_plain cs) cs (39 ∷ (flat_map quoted_char cs ++ 39 ∷ [])) is

-- Characters of strings

string-escaped : (c : ℕ) → (c ≡ 34) ⊎ (c ≡ 92) → string_char c ≡ 92 ∷ c ∷ []
string-escaped c either =
    elim either [
      | inl e ↦ ap string_char e ∙ ap (λ d. 92 ∷ d ∷ []) (sym e)
      | inr e ↦ ap string_char e ∙ ap (λ d. 92 ∷ d ∷ []) (sym e)
    ]

string-plain : (c : ℕ) → (c ≡ 34 → ⊥) → (c ≡ 92 → ⊥) → string_char c ≡ c ∷ []
string-plain c other neither = grind (arith, nat_tests)

pub string-escaped-bytes : (c : ℕ) → (c ≡ 34) ⊎ (c ≡ 92) → utf8 (string_char c) ≡ 92 ∷ c ∷ []
string-escaped-bytes c either =
    let small : c < 128 = elim either [ inl is ↦ omega (arith, is) | inr is ↦ omega (arith, is) ] in
    ap utf8 (string-escaped c either) ∙ utf8-ascii (92 ∷ c ∷ []) (IsAscii-cons 92 (c ∷ []) (omega arith) (IsAscii-cons c [] small IsAscii-nil))

pub string-plain-bytes : (c : ℕ) → (c ≡ 34 → ⊥) → (c ≡ 92 → ⊥) → utf8 (c ∷ []) ≡ utf8 (string_char c)
string-plain-bytes c other neither = ap utf8 (sym (string-plain c other neither))

-- what a term adds to a string: its character, or nothing
pub char-added : (o : Option ℕ) (c : ℕ) → o ≡ Some c → utf8 (string_char c) ≡ utf8 (flat_map string_char (option_to_list o))
char-added o c is =
    ap utf8 (sym (append-nil (string_char c))) ∙ ap (λ p. utf8 (flat_map string_char (option_to_list p))) (sym is)

pub none-added : (o : Option ℕ) → o ≡ None → [] ≡ utf8 (flat_map string_char (option_to_list o))
none-added o is = sym utf8-nil ∙ ap (λ p. utf8 (flat_map string_char (option_to_list p))) (sym is)

-- where nothing is written yet
pub nothing-yet : (old : List ℕ) → old ≡ old ++ utf8 []
nothing-yet old = sym (ap (λ bs. old ++ bs) utf8-nil ∙ append-nil old)
