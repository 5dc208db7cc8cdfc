-- Reserved words (Erlang Reference Manual, Reserved Words, of OTP 25: `maybe` and `else` are atoms).
use Rattle.std.specs.Prelude.{ℕ, if◌then◌else◌, List, [], ◌∷◌, codes, Option, Some, None}
use Rattle.std.specs.Str.{bytes_eq}
use Rattle.erl_scan.specs.declared.word.Word.{Word}
use Rattle.erl_scan.specs.declared.word.Word.TheVariants.{After, And, AndAlso, BitAnd, Begin, BitNot, BitOr, ShiftLeft}
use Rattle.erl_scan.specs.declared.word.Word.TheVariants.{ShiftRight, BitXor, Case, Catch, Cond, Div, End, Fun, If, Let, Not}
use Rattle.erl_scan.specs.declared.word.Word.TheVariants.{Of, Or, OrElse, Receive, Rem, Try, When, Xor}

-- each reserved word as it is written
abbrev pub word_text : Word → List ℕ
word_text After = codes "after"
word_text And = codes "and"
word_text AndAlso = codes "andalso"
word_text BitAnd = codes "band"
word_text Begin = codes "begin"
word_text BitNot = codes "bnot"
word_text BitOr = codes "bor"
word_text ShiftLeft = codes "bsl"
word_text ShiftRight = codes "bsr"
word_text BitXor = codes "bxor"
word_text Case = codes "case"
word_text Catch = codes "catch"
word_text Cond = codes "cond"
word_text Div = codes "div"
word_text End = codes "end"
word_text Fun = codes "fun"
word_text If = codes "if"
word_text Let = codes "let"
word_text Not = codes "not"
word_text Of = codes "of"
word_text Or = codes "or"
word_text OrElse = codes "orelse"
word_text Receive = codes "receive"
word_text Rem = codes "rem"
word_text Try = codes "try"
word_text When = codes "when"
word_text Xor = codes "xor"

abbrev pub all_words : List Word
all_words =
    After ∷ And ∷ AndAlso ∷ BitAnd ∷ Begin ∷ BitNot ∷ BitOr ∷ ShiftLeft ∷ ShiftRight ∷ BitXor ∷ Case ∷ Catch ∷ Cond ∷ Div ∷
    End ∷ Fun ∷ If ∷ Let ∷ Not ∷ Of ∷ Or ∷ OrElse ∷ Receive ∷ Rem ∷ Try ∷ When ∷ Xor ∷ []

-- the first of some words that is written so
abbrev pub word_among : List Word → List ℕ → Option Word
word_among [] cs = None
word_among (w ∷ ws) cs = if bytes_eq (word_text w) cs then Some w else word_among ws cs

-- the reserved word that is written so
unfoldable pub word_of : List ℕ → Option Word
word_of cs = word_among all_words cs
