-- Marks by the three characters that a text begins with, where 0 stands for the end.
use Rattle.std.specs.Prelude.{ℕ, ◌==◌, ◌&&◌, if◌then◌else◌, List, length, drop, Option, Some, None}
use Rattle.erl_scan.specs.declared.mark.Mark.{Mark}
use Rattle.erl_scan.specs.declared.mark.Mark.TheVariants.{ExactlyEqual, ExactlyUnequal, Ellipsis, OpenBinary, LeftArrow}
use Rattle.erl_scan.specs.declared.mark.Mark.TheVariants.{BinaryArrow, CloseBinary, GreaterOrEqual, Arrow, Subtract, Append}
use Rattle.erl_scan.specs.declared.mark.Mark.TheVariants.{LessOrEqual, MapArrow, Equal, Unequal, BarBar, MapMatch, ColonColon}
use Rattle.erl_scan.specs.declared.mark.Mark.TheVariants.{DotDot, MaybeMatch, OpenParen, CloseParen, OpenBrace, CloseBrace}
use Rattle.erl_scan.specs.declared.mark.Mark.TheVariants.{OpenBracket, CloseBracket, Comma, Semicolon, Colon, Period, Bar, Send}
use Rattle.erl_scan.specs.declared.mark.Mark.TheVariants.{Hash, Times, Plus, Minus, Divide, Less, Match, Greater, Question}
use Rattle.erl_scan.specs.Marks.{Marked, mark_text}

-- with what is left behind it
abbrev pub with_rest : Option Mark → List ℕ → Option Marked
with_rest None cs = None
with_rest (Some m) cs = Some (record { mark = m; rest = drop (length (mark_text m)) cs })

-- behind `=`
abbrev pub behind_equals : ℕ → ℕ → Mark
behind_equals d e =
    if (58 == d) && (61 == e) then ExactlyEqual else
    (if (47 == d) && (61 == e) then ExactlyUnequal else
    (if 60 == d then LessOrEqual else (if 62 == d then MapArrow else (if 61 == d then Equal else Match))))

-- behind `<`
abbrev pub behind_less : ℕ → Mark
behind_less d =
    if 60 == d then OpenBinary else (if 45 == d then LeftArrow else (if 61 == d then BinaryArrow else Less))

-- behind `>`
abbrev pub behind_greater : ℕ → Mark
behind_greater d = if 62 == d then CloseBinary else (if 61 == d then GreaterOrEqual else Greater)

-- behind `-`
abbrev pub behind_minus : ℕ → Mark
behind_minus d = if 62 == d then Arrow else (if 45 == d then Subtract else Minus)

-- behind `:`
abbrev pub behind_colon : ℕ → Mark
behind_colon d = if 61 == d then MapMatch else (if 58 == d then ColonColon else Colon)

-- behind a dot
abbrev pub behind_dot : ℕ → ℕ → Mark
behind_dot d e = if (46 == d) && (46 == e) then Ellipsis else (if 46 == d then DotDot else Period)

-- the longer of two marks, where the character that makes it so follows
abbrev pub longer_if : ℕ → ℕ → Mark → Mark → Mark
longer_if wanted d longer shorter = if wanted == d then longer else shorter

-- the marks of one character that begin no longer one
abbrev pub alone : ℕ → Option Mark
alone c =
    if 40 == c then Some OpenParen else (if 41 == c then Some CloseParen else
    (if 123 == c then Some OpenBrace else (if 125 == c then Some CloseBrace else
    (if 91 == c then Some OpenBracket else (if 93 == c then Some CloseBracket else
    (if 44 == c then Some Comma else (if 59 == c then Some Semicolon else
    (if 33 == c then Some Send else (if 35 == c then Some Hash else (if 42 == c then Some Times else None))))))))))

-- by the first character
abbrev pub mark_by : ℕ → ℕ → ℕ → Option Mark
mark_by c d e =
    if 61 == c then Some (behind_equals d e) else
    (if 60 == c then Some (behind_less d) else
    (if 62 == c then Some (behind_greater d) else
    (if 45 == c then Some (behind_minus d) else
    (if 58 == c then Some (behind_colon d) else
    (if 46 == c then Some (behind_dot d e) else
    (if 43 == c then Some (longer_if 43 d Append Plus) else
    (if 47 == c then Some (longer_if 61 d Unequal Divide) else
    (if 124 == c then Some (longer_if 124 d BarBar Bar) else
    (if 63 == c then Some (longer_if 61 d MaybeMatch Question) else alone c)))))))))
