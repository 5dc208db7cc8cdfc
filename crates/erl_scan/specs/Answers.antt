-- What reading one token answers, for the steps that read a token of one kind.
use Rattle.std.specs.Prelude.{◌≡◌, ℕ, nat_lt, if◌then◌else◌, List, [], ◌∷◌, length, Option, Some, None, Result, Ok, Err}
use Rattle.erl_scan.specs.declared.error.Fault.TheVariants.{Unclosed, BadEscape, AtomTooLong, Memory}
use Rattle.erl_scan.specs.declared.error.ReadError.{ReadError}
use Rattle.erl_chars.specs.Chars.{is_name_char, front, after_front}
use Rattle.erl_chars.specs.Cursor.{offset, after_first}
use Rattle.erl_chars.specs.Quotes.{closed, unclosed, bad_escape, IsQuoted}
use Rattle.erl_scan.specs.declared.token.Token.{Token}
use Rattle.erl_scan.specs.declared.token.Token.TheVariants.{Atom, Variable}
use Rattle.erl_scan.specs.Tokens.{Next, ends, token, fault, name_next, character_next, plain_next, Comes}
use Rattle.erl_scan.specs.Scanner.{IsFault}
use Rattle.erl_scan.specs.Words.{word_of}

-- an error tells the fault that comes next, in a text of so many bytes, unless memory was refused
pub data TellsFault (whole : ℕ) (next : Next) (error : ReadError) : Type 0 where
  memory : error.kind ≡ Memory → TellsFault whole next error
  faulty : (at : List ℕ) → next ≡ fault error.kind at → error.at ≡ offset whole at → TellsFault whole next error

-- an answer gives what comes next, with what is left after it
abbrev pub Answers : ℕ → Next → Result Token ReadError → List ℕ → Type 0
Answers whole next (Ok t) rest = next ≡ token t rest
Answers whole next (Err e) rest = TellsFault whole next e

-- an answer gives what comes first in what is left of a text, whatever its first character
abbrev pub AnswersFirst : ℕ → List ℕ → Result Token ReadError → List ℕ → Type 0
AnswersFirst whole here (Ok t) rest = Comes here (token t rest)
AnswersFirst whole here (Err e) rest = IsFault whole here e

-- what comes next in a text, where its first character is no quote
abbrev pub plain_in : List ℕ → Next
plain_in [] = ends
plain_in (c ∷ cs) = plain_next c cs

-- the name or the variable that the characters begin with
abbrev pub name_in : List ℕ → Next
name_in cs = name_next cs (front is_name_char cs) (word_of (front is_name_char cs)) (after_front is_name_char cs)

abbrev pub variable_in : List ℕ → Next
variable_in cs = token (Variable (front is_name_char cs)) (after_front is_name_char cs)

-- the character behind `$` that the characters begin with
abbrev pub character_in : List ℕ → Next
character_in cs = character_next cs (after_first cs)

-- the atom of a text at an offset
abbrev pub atom_at : List ℕ → ℕ → Result Token ReadError
atom_at text at = if nat_lt 255 (length text) then Err (record { kind = AtomTooLong; at = at }) else Ok (Atom text)

-- the next character that a name goes on with, and what is left behind it
abbrev pub NameGoesOn : List ℕ → Option ℕ → List ℕ → Type 0
NameGoesOn cs None rest = (front is_name_char cs ≡ []) × (after_front is_name_char cs ≡ cs) × (rest ≡ cs)
NameGoesOn cs (Some c) rest =
    (front is_name_char cs ≡ c ∷ front is_name_char rest) × (after_front is_name_char cs ≡ after_front is_name_char rest)

-- an error tells why nothing stands between quotes, by the text at the opening one
pub data IsNotBetween (whole quote : ℕ) (here : List ℕ) (error : ReadError) : Type 0 where
  no_memory : error.kind ≡ Memory → IsNotBetween whole quote here error
  open_end : IsQuoted quote (after_first here) unclosed → error.kind ≡ Unclosed → error.at ≡ offset whole here →
      IsNotBetween whole quote here error
  escape : (at : List ℕ) → IsQuoted quote (after_first here) (bad_escape at) → error.kind ≡ BadEscape →
      error.at ≡ offset whole at → IsNotBetween whole quote here error

-- an answer tells what stands between quotes, by the text at the opening one
abbrev pub IsBetween : ℕ → ℕ → List ℕ → Result (List ℕ) ReadError → List ℕ → Type 0
IsBetween whole quote here (Ok text) rest = IsQuoted quote (after_first here) (closed text rest)
IsBetween whole quote here (Err e) rest = IsNotBetween whole quote here e
