-- The brackets that are open where tokens end.
use Rattle.std.specs.Prelude.{ℕ, zero, suc, List, [], ◌∷◌, Option, None, Some}
use Rattle.erl_scan.specs.declared.mark.Mark.{Mark}
use Rattle.erl_scan.specs.declared.mark.Mark.TheVariants as marks
use Rattle.erl_scan.specs.declared.token.Token.{Token}
use Rattle.erl_scan.specs.declared.token.Token.TheVariants as tokens
use Rattle.erl_scan.specs.declared.token.Spot.{Spot}
use Rattle.module_forms.specs.declared.brackets.Brackets.{Brackets}
use Rattle.module_forms.specs.declared.brackets.Brackets.TheVariants.{Open, Closing, Ended}

-- What the brackets of tokens come to where they end, by the first token and what those behind it come to. An opening bracket
-- is the innermost that stays open where all are closed that are opened behind it; a dot ends a form with its brackets.

abbrev pub opened_at : ℕ → Brackets → Brackets
opened_at at (Closing zero) = Open at
opened_at at (Closing (suc n)) = Closing n
opened_at at b = b

abbrev pub one_closed : Brackets → Brackets
one_closed (Closing n) = Closing (suc n)
one_closed b = b

abbrev pub dotted : Brackets → Brackets
dotted (Closing n) = Ended
dotted b = b

abbrev pub behind_mark : Mark → ℕ → Brackets → Brackets
behind_mark marks.OpenParen at b = opened_at at b
behind_mark marks.OpenBracket at b = opened_at at b
behind_mark marks.OpenBrace at b = opened_at at b
behind_mark marks.CloseParen at b = one_closed b
behind_mark marks.CloseBracket at b = one_closed b
behind_mark marks.CloseBrace at b = one_closed b
behind_mark m at b = b

abbrev pub behind_token : Token → ℕ → Brackets → Brackets
behind_token (tokens.Mark m) at b = behind_mark m at b
behind_token tokens.Dot at b = dotted b
behind_token token at b = b

abbrev pub brackets : List Spot → Brackets
brackets [] = Closing 0
brackets (s ∷ ss) = behind_token s.what s.at (brackets ss)

abbrev pub offset_of : Brackets → Option ℕ
offset_of (Open at) = Some at
offset_of b = None

-- where the innermost bracket stands that is open at the end of tokens, in the form that they end in
abbrev pub innermost : List Spot → Option ℕ
innermost ss = offset_of (brackets ss)

-- how many brackets are closed that are opened before
abbrev pub closing_count : Brackets → ℕ
closing_count (Closing n) = n
closing_count b = 0
