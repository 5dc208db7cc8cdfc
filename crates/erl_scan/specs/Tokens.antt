-- Tokens (Erlang Reference Manual; after `erl_scan` of OTP 25, which differs in little): what a text begins with, and a
-- text as a list of tokens.
use Rattle.std.specs.Prelude.{◌≡◌, ℕ, nat_lt, ◌==◌, Bool, true, false, ◌&&◌, ◌||◌, if◌then◌else◌, List, [], ◌∷◌, length, Option}
use Rattle.std.specs.Prelude.{Some, None}
use Rattle.erl_scan.specs.declared.error.Fault.{Fault}
use Rattle.erl_scan.specs.declared.error.Fault.TheVariants.{BadChar, Unclosed, BadEscape, Unsupported, AtomTooLong, Syntax}
use Rattle.erl_chars.specs.Chars.{is_blank, is_digit, is_small, is_name_char, begins_variable, front, after_front}
use Rattle.erl_chars.specs.Cursor.{byte_count, offset}
use Rattle.erl_chars.specs.Gaps.{after_gap}
use Rattle.erl_chars.specs.Quotes.{Step, stands, closing, cut, wrong, escape, Quoted, closed, unclosed, bad_escape, IsQuoted}
use Rattle.erl_scan.specs.declared.token.Token.{Token}
use Rattle.erl_scan.specs.declared.token.Token.TheVariants.{Integer, Float, Atom, Word as WordOf, Variable, String}
use Rattle.erl_scan.specs.declared.token.Token.TheVariants.{Mark as MarkOf, Dot}
use Rattle.erl_scan.specs.declared.token.Spot.{Spot}
use Rattle.erl_scan.specs.declared.word.Word.{Word}
use Rattle.erl_scan.specs.Words.{word_of}
use Rattle.erl_scan.specs.Marks.{Marked, mark_in}
use Rattle.erl_scan.specs.Numbers.{Number, whole, real, no_base, number_in, saturated}

-- what comes next in a text, where no blank or comment comes
pub data Next : Type 0 where
  -- the end
  ends : Next
  -- a token, and what is left behind it
  token : Token → List ℕ → Next
  -- a token that is faulty by itself, and what is left where the fault is told
  fault : Fault → List ℕ → Next

-- Numbers

-- an integer without a sign, whatever its size
abbrev pub number_next : List ℕ → Number → Next
number_next here (whole n rest) = token (Integer (saturated n)) rest
number_next here (real rest) = token Float rest
number_next here no_base = fault Syntax here

-- `$` and an escape, by the text from its backslash on
abbrev pub escaped_next : List ℕ → Step → Next
escaped_next here (stands c rest) = token (Integer c) rest
escaped_next here (closing rest) = fault BadEscape here
escaped_next here cut = fault BadEscape here
escaped_next here wrong = fault BadEscape here

-- a character behind `$` (36), itself or by an escape behind a backslash (92): the integer of its code point
abbrev pub character_next : List ℕ → List ℕ → Next
character_next here [] = fault BadChar here
character_next here (c ∷ cs) = if c == 92 then escaped_next (c ∷ cs) (escape cs) else token (Integer c) cs

-- Names

-- a name that begins with a small letter: a reserved word, or an atom of at most 255 characters
abbrev pub name_next : List ℕ → List ℕ → Option Word → List ℕ → Next
name_next here name (Some w) rest = token (WordOf w) rest
name_next here name None rest = if nat_lt 255 (length name) then fault AtomTooLong here else token (Atom name) rest

-- Quotes

-- an atom between single quotes, of at most 255 characters
abbrev pub atom_next : List ℕ → Quoted → Next
atom_next here (closed vs rest) = if nat_lt 255 (length vs) then fault AtomTooLong here else token (Atom vs) rest
atom_next here unclosed = fault Unclosed here
atom_next here (bad_escape at) = fault BadEscape at

abbrev pub string_next : List ℕ → Quoted → Next
string_next here (closed vs rest) = token (String vs) rest
string_next here unclosed = fault Unclosed here
string_next here (bad_escape at) = fault BadEscape at

abbrev pub begins_two_quotes : List ℕ → Bool
begins_two_quotes [] = false
begins_two_quotes (c ∷ []) = false
begins_two_quotes (c ∷ d ∷ cs) = (c == 34) && (d == 34)

-- Three double quotes begin a string of another kind, which OTP 27 has and which is not read.
abbrev pub double_quoted : List ℕ → List ℕ → Quoted → Next
double_quoted here cs quoted = if begins_two_quotes cs then fault Unsupported here else string_next here quoted

-- Punctuation

-- behind the dot that ends a form stands a blank, a comment or the end
abbrev pub ends_form : List ℕ → Bool
ends_form [] = true
ends_form (c ∷ cs) = is_blank c || (c == 37)

-- every other character begins a mark, or no token
abbrev pub mark_next : List ℕ → Option Marked → Next
mark_next here None = fault BadChar here
mark_next here (Some m) = token (MarkOf m.mark) m.rest

-- what comes next, where the first character is no quote
abbrev pub plain_next : ℕ → List ℕ → Next
plain_next c cs =
    if is_digit 10 c then number_next (c ∷ cs) (number_in (c ∷ cs)) else
    (if c == 36 then character_next (c ∷ cs) cs else
    (if is_small c then name_next (c ∷ cs) (c ∷ front is_name_char cs) (word_of (c ∷ front is_name_char cs))
    (after_front is_name_char cs) else (if begins_variable c then token (Variable (c ∷ front is_name_char cs))
    (after_front is_name_char cs) else (if (c == 46) &&
    ends_form cs then token Dot cs else mark_next (c ∷ cs) (mark_in (c ∷ cs))))))

-- what comes next, by whether the first character is a single quote (39) or a double one (34)
abbrev pub NextBy : Bool → Bool → ℕ → List ℕ → Next → Type 0
NextBy true double c cs next = (quoted : Quoted) × IsQuoted 39 cs quoted × (next ≡ atom_next (c ∷ cs) quoted)
NextBy false true c cs next = (quoted : Quoted) × IsQuoted 34 cs quoted × (next ≡ double_quoted (c ∷ cs) cs quoted)
NextBy false false c cs next = next ≡ plain_next c cs

-- what comes next in a text that begins with no blank and no comment
abbrev pub Comes : List ℕ → Next → Type 0
Comes [] next = next ≡ ends
Comes (c ∷ cs) next = NextBy (c == 39) (c == 34) c cs next

-- These tokens come first in what is left of a text, each where it stands, with blanks and comments before them, and so
-- much is left behind the last. The text has `total` bytes.
abbrev pub Reads : ℕ → List ℕ → List Spot → List ℕ → Type 0
Reads total cs [] rest = cs ≡ rest
Reads total cs (s ∷ ss) rest =
    (more : List ℕ) × Comes (after_gap cs) (token s.what more) × (s.at ≡ offset total (after_gap cs)) × Reads total more ss rest

-- The tokens of a text up to some offset, what is left there behind blanks and comments, and what comes next.
pub record Reaches (cs : List ℕ) (before : List Spot) (here : List ℕ) (next : Next) : Type 0 where
  pub left : List ℕ
  pub read : Reads (byte_count cs) cs before left
  pub gap : here ≡ after_gap left
  pub comes : Comes here next

-- The laws: one thing comes next, and a text that is read as far reads in one way.
abbrev pub ComesOne : Type 0
ComesOne = (cs : List ℕ) → (one other : Next) → Comes cs one → Comes cs other → one ≡ other

abbrev pub ReadsOne : Type 0
ReadsOne =
    (total : ℕ) → (cs : List ℕ) → (one other : List Spot) → (rest : List ℕ) → (left : List ℕ) → Reads total cs one rest →
    Reads total cs other left → length one ≡ length other → (one ≡ other) × (rest ≡ left)
