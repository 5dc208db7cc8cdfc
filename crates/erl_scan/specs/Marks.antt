-- Punctuation: the longest that the characters begin with (`erl_scan` of OTP 25).
use Rattle.std.specs.Prelude.{◌≡◌, ℕ, ◌≤◌, ◌==◌, if◌then◌else◌, List, [], ◌∷◌, ◌++◌, length, codes, Option, Some, None}
use Rattle.erl_scan.specs.declared.mark.Mark.{Mark}
use Rattle.erl_scan.specs.declared.mark.Mark.TheVariants.{ExactlyEqual, ExactlyUnequal, Ellipsis, OpenBinary, LeftArrow}
use Rattle.erl_scan.specs.declared.mark.Mark.TheVariants.{BinaryArrow, CloseBinary, GreaterOrEqual, Arrow, Subtract, Append}
use Rattle.erl_scan.specs.declared.mark.Mark.TheVariants.{LessOrEqual, MapArrow, Equal, Unequal, BarBar, MapMatch, ColonColon}
use Rattle.erl_scan.specs.declared.mark.Mark.TheVariants.{DotDot, MaybeMatch, OpenParen, CloseParen, OpenBrace, CloseBrace}
use Rattle.erl_scan.specs.declared.mark.Mark.TheVariants.{OpenBracket, CloseBracket, Comma, Semicolon, Colon, Period, Bar, Send}
use Rattle.erl_scan.specs.declared.mark.Mark.TheVariants.{Hash, Times, Plus, Minus, Divide, Less, Match, Greater, Question}

-- each as it is written
abbrev pub mark_text : Mark → List ℕ
mark_text ExactlyEqual = codes "=:="
mark_text ExactlyUnequal = codes "=/="
mark_text Ellipsis = codes "..."
mark_text OpenBinary = codes "<<"
mark_text LeftArrow = codes "<-"
mark_text BinaryArrow = codes "<="
mark_text CloseBinary = codes ">>"
mark_text GreaterOrEqual = codes ">="
mark_text Arrow = codes "->"
mark_text Subtract = codes "--"
mark_text Append = codes "++"
mark_text LessOrEqual = codes "=<"
mark_text MapArrow = codes "=>"
mark_text Equal = codes "=="
mark_text Unequal = codes "/="
mark_text BarBar = codes "||"
mark_text MapMatch = codes ":="
mark_text ColonColon = codes "::"
mark_text DotDot = codes ".."
mark_text MaybeMatch = codes "?="
mark_text OpenParen = codes "("
mark_text CloseParen = codes ")"
mark_text OpenBrace = codes "{"
mark_text CloseBrace = codes "}"
mark_text OpenBracket = codes "["
mark_text CloseBracket = codes "]"
mark_text Comma = codes ","
mark_text Semicolon = codes ";"
mark_text Colon = codes ":"
mark_text Period = codes "."
mark_text Bar = codes "|"
mark_text Send = codes "!"
mark_text Hash = codes "#"
mark_text Times = codes "*"
mark_text Plus = codes "+"
mark_text Minus = codes "-"
mark_text Divide = codes "/"
mark_text Less = codes "<"
mark_text Match = codes "="
mark_text Greater = codes ">"
mark_text Question = codes "?"

-- all of them, the longest first
abbrev pub all_marks : List Mark
all_marks =
    ExactlyEqual ∷ ExactlyUnequal ∷ Ellipsis ∷ OpenBinary ∷ LeftArrow ∷ BinaryArrow ∷ CloseBinary ∷ GreaterOrEqual ∷ Arrow ∷
    Subtract ∷ Append ∷ LessOrEqual ∷ MapArrow ∷ Equal ∷ Unequal ∷ BarBar ∷ MapMatch ∷ ColonColon ∷ DotDot ∷ MaybeMatch ∷
    OpenParen ∷ CloseParen ∷ OpenBrace ∷ CloseBrace ∷ OpenBracket ∷ CloseBracket ∷ Comma ∷ Semicolon ∷ Colon ∷ Period ∷ Bar ∷
    Send ∷ Hash ∷ Times ∷ Plus ∷ Minus ∷ Divide ∷ Less ∷ Match ∷ Greater ∷ Question ∷ []

-- what is left behind a text that the characters begin with
abbrev pub behind : List ℕ → List ℕ → Option (List ℕ)
behind [] cs = Some cs
behind (t ∷ ts) [] = None
behind (t ∷ ts) (c ∷ cs) = if t == c then behind ts cs else None

-- a mark, and what is left behind it
pub record Marked : Type 0 where
  pub mark : Mark
  pub rest : List ℕ

abbrev pub or_else : Mark → Option (List ℕ) → Option Marked → Option Marked
or_else m None others = others
or_else m (Some rest) others = Some (record { mark = m; rest = rest })

-- the first of some marks that the characters begin with
abbrev pub mark_among : List Mark → List ℕ → Option Marked
mark_among [] cs = None
mark_among (m ∷ ms) cs = or_else m (behind (mark_text m) cs) (mark_among ms cs)

-- the mark that the characters begin with
unfoldable pub mark_in : List ℕ → Option Marked
mark_in cs = mark_among all_marks cs

-- The law that makes it the longest: where characters begin with a mark, one is found, they begin with it, and it is no
-- shorter than any that they begin with.
pub record IsLongest (cs : List ℕ) (m : Mark) (found : Marked) : Type 0 where
  pub begins : cs ≡ mark_text found.mark ++ found.rest
  pub longest : length (mark_text m) ≤ length (mark_text found.mark)

abbrev pub MarksAreLongest : Type 0
MarksAreLongest =
    (m : Mark) → (cs rest : List ℕ) → cs ≡ mark_text m ++ rest →
    (found : Marked) × (mark_in cs ≡ Some found) × IsLongest cs m found
