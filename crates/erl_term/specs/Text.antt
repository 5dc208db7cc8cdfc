-- How terms are printed: the characters of a term's text, in Erlang's syntax (Erlang Reference Manual, Data
-- Types), but for process identifiers, which that syntax lacks.
use Rattle.std.specs.Prelude.{ℕ, pos, negsuc, ◌+◌, ◌/◌, ◌%◌, nat_le, ◌==◌, Bool, false, not, ◌&&◌, ◌||◌, if◌then◌else◌, List}
use Rattle.std.specs.Prelude.{[], ◌∷◌, ◌++◌, codes, Option, Some, None, option_map}
use Rattle.std.specs.List.{list_any, list_all, flat_map}
use Rattle.std.specs.Option.{option_and_then}
use Rattle.std.specs.Str.{bytes_eq}
use Rattle.std.specs.Fmt.{decimal, signed_decimal}
use lib.Utf8.{encodes}
use Rattle.erl_term.specs.Tree.{Tree, Trees, int, atom, pid, tuple, list, none, more}

-- the bytes of characters
unfoldable pub utf8 : List ℕ → List ℕ
utf8 cs = encodes cs

-- Atoms

abbrev pub is_lower : ℕ → Bool
is_lower c = nat_le 97 c && nat_le c 122

-- a to z, A to Z, 0 to 9, `_` and `@`
abbrev pub is_name_char : ℕ → Bool
is_name_char c = is_lower c || (nat_le 65 c && nat_le c 90) || (nat_le 48 c && nat_le c 57) || (c == 95) || (c == 64)

abbrev pub begins_lower : List ℕ → Bool
begins_lower [] = false
begins_lower (c ∷ cs) = is_lower c

-- the words that get quotes: those that are reserved (Erlang Reference Manual, Reserved Words), and `else`
-- and `maybe`, which are read as atoms but which newer releases reserve
abbrev pub quoted_words : List (List ℕ)
quoted_words =
    codes "after" ∷ codes "and" ∷ codes "andalso" ∷ codes "band" ∷ codes "begin" ∷ codes "bnot" ∷ codes "bor" ∷ codes "bsl" ∷
    codes "bsr" ∷ codes "bxor" ∷ codes "case" ∷ codes "catch" ∷ codes "cond" ∷ codes "div" ∷ codes "else" ∷ codes "end" ∷
    codes "fun" ∷ codes "if" ∷ codes "let" ∷ codes "maybe" ∷ codes "not" ∷ codes "of" ∷ codes "or" ∷ codes "orelse" ∷
    codes "receive" ∷ codes "rem" ∷ codes "try" ∷ codes "when" ∷ codes "xor" ∷ []

unfoldable pub is_quoted_word : List ℕ → Bool
is_quoted_word cs = list_any (λ word. bytes_eq word cs) quoted_words

-- An atom stands without quotes where it begins with a lower-case letter, goes on with letters, digits,
-- `_` and `@`, and is none of those words.
abbrev pub is_plain : List ℕ → Bool
is_plain cs = begins_lower cs && (list_all is_name_char cs && not (is_quoted_word cs))

-- one hexadecimal digit, in lower case
abbrev pub hex_digit : ℕ → ℕ
hex_digit n = if nat_le n 9 then 48 + n else 87 + n

-- a number below 256 in hexadecimal, with no leading zero
abbrev pub hex : ℕ → List ℕ
hex n = if nat_le n 15 then hex_digit n ∷ [] else hex_digit (n / 16) ∷ hex_digit (n % 16) ∷ []

-- a character between single quotes: a quote and a backslash get a backslash, control characters are
-- written in hexadecimal, and all others stand as they are
abbrev pub quoted_char : ℕ → List ℕ
quoted_char c =
    if (c == 39) || (c == 92) then 92 ∷ c ∷ [] else
    (if nat_le c 31 || (c == 127) then codes "\\x{" ++ (hex c ++ 125 ∷ []) else c ∷ [])

abbrev pub atom_text : List ℕ → List ℕ
atom_text cs = if is_plain cs then cs else 39 ∷ (flat_map quoted_char cs ++ 39 ∷ [])

-- Lists

-- the character of an integer from 32 to 126; None of any other term
abbrev pub printable_char : Tree → Option ℕ
printable_char (int (pos n)) = if nat_le 32 n && nat_le n 126 then Some n else None
printable_char (int (negsuc n)) = None
printable_char (atom cs) = None
printable_char (pid n) = None
printable_char (tuple ts) = None
printable_char (list ts) = None

-- the characters of a row of such integers; None of any other row
abbrev pub printable : Trees → Option (List ℕ)
printable none = Some []
printable (more t ts) = option_and_then (λ c. option_map (λ cs. c ∷ cs) (printable ts)) (printable_char t)

-- a character between double quotes: a quote and a backslash get a backslash
abbrev pub string_char : ℕ → List ℕ
string_char c = if (c == 34) || (c == 92) then 92 ∷ c ∷ [] else c ∷ []

abbrev pub string_text : List ℕ → List ℕ
string_text cs = 34 ∷ (flat_map string_char cs ++ 34 ∷ [])

-- a list: as a string where it is one and not empty, else by its elements' texts
abbrev pub list_text : Option (List ℕ) → List ℕ → List ℕ
list_text None elements = 91 ∷ (elements ++ 93 ∷ [])
list_text (Some []) elements = codes "[]"
list_text (Some (c ∷ cs)) elements = string_text (c ∷ cs)

-- Terms, without blanks

abbrev mutual
  pub text : Tree → List ℕ
  text (int n) = signed_decimal n
  text (atom cs) = atom_text cs
  text (pid n) = codes "<0." ++ (decimal n ++ codes ".0>")
  text (tuple ts) = 123 ∷ (elements_text ts ++ 125 ∷ [])
  text (list ts) = list_text (printable ts) (elements_text ts)

  -- the elements, with commas between them
  pub elements_text : Trees → List ℕ
  elements_text none = []
  elements_text (more t ts) = text t ++ others_text ts

  -- the elements after the first, each behind a comma
  pub others_text : Trees → List ℕ
  others_text none = []
  others_text (more t ts) = 44 ∷ (text t ++ others_text ts)
