-- What an answer tells of the steps that it came by.
use Rattle.std.proofs.Common.{◌≡◌, Bool, true, false, ◌&&◌, if◌then◌else◌, IsTrue, List, [], ◌∷◌, Option, Some, None, ap, sym, refl, true≢false, rules}
use Rattle.std.proofs.lemmas.Option.{none-some, same_Some}
use Rattle.erl_ast.specs.Terminal.{Terminal, mark, word}
use Rattle.erl_scan.specs.declared.mark.Mark.{Mark}
use Rattle.erl_scan.specs.declared.mark.Mark.TheVariants as marks
use Rattle.erl_scan.specs.declared.word.Word.{Word}
use Rattle.erl_scan.specs.declared.word.Word.TheVariants as words
use Rattle.erl_ast.specs.declared.shape.Infix.{Infix}
use Rattle.erl_ast.specs.Written.{infix_terminal}
use Rattle.erl_expressions.specs.declared.delimiter.Delimiter.{Delimiter}
use Rattle.erl_expressions.specs.declared.delimiter.Delimiter.TheVariants as delimiters
use Rattle.erl_expressions.specs.Delimiters.{delimiter, is_delimiter, after}
use Rattle.erl_expressions.specs.Leaves.{infix_mark, infix_word, infix_ahead}
use Rattle.erl_expressions.specs.Reading.{and_then, behind_first}

pub inverts : {A B : Type 0} (o : Option A) (f : A → Option B) (y : B) → and_then o f ≡ Some y → (x : A) × (o ≡ Some x) × (f x ≡ Some y)
inverts None f y is = absurd (none-some y is)
inverts (Some x) f y is = (x, refl, is)

pub if_some : {A : Type 0} (b : Bool) (o : Option A) (y : A) → (if b then o else None) ≡ Some y → IsTrue b × (o ≡ Some y)
if_some true o y is = (refl, is)
if_some false o y is = absurd (none-some y is)

pub both : (a b : Bool) → IsTrue (a && b) → IsTrue a × IsTrue b
both true b is = (refl, is)
both false b is = absurd (true≢false (sym is))

delimiter_is : (d : Delimiter) (t : Terminal) → is_delimiter d t ≡ true → t ≡ delimiter d
delimiter_is delimiters.Comma (mark marks.Comma) is = refl
delimiter_is delimiters.Semicolon (mark marks.Semicolon) is = refl
delimiter_is delimiters.Bar (mark marks.Bar) is = refl
delimiter_is delimiters.Arrow (mark marks.Arrow) is = refl
delimiter_is delimiters.CloseParen (mark marks.CloseParen) is = refl
delimiter_is delimiters.CloseBrace (mark marks.CloseBrace) is = refl
delimiter_is delimiters.CloseBracket (mark marks.CloseBracket) is = refl
delimiter_is delimiters.When (word words.When) is = refl
delimiter_is delimiters.Of (word words.Of) is = refl
delimiter_is delimiters.End (word words.End) is = refl
delimiter_is _ _ is = absurd (true≢false (sym is))

pub after_is : (d : Delimiter) (ts rest : List Terminal) → after d ts ≡ Some rest → ts ≡ delimiter d ∷ rest
after_is d [] rest is = absurd (none-some rest is)
after_is d (t ∷ ts) rest is =
    let found = if_some (is_delimiter d t) (Some ts) rest is in
    λ i. delimiter_is d t found.0 i ∷ same_Some ts rest found.1 i

mark_is : (m : Mark) (op : Infix) → infix_mark m ≡ Some op → mark m ≡ infix_terminal op
mark_is marks.Times op is = search rules
mark_is marks.Plus op is = search rules
mark_is marks.Minus op is = search rules
mark_is marks.Append op is = search rules
mark_is marks.Equal op is = search rules
mark_is marks.Unequal op is = search rules
mark_is marks.ExactlyEqual op is = search rules
mark_is marks.ExactlyUnequal op is = search rules
mark_is marks.Less op is = search rules
mark_is marks.Greater op is = search rules
mark_is marks.LessOrEqual op is = search rules
mark_is marks.GreaterOrEqual op is = search rules
mark_is marks.Send op is = search rules
mark_is marks.Match op is = search rules
mark_is _ op is = absurd (none-some op is)

word_is : (w : Word) (op : Infix) → infix_word w ≡ Some op → word w ≡ infix_terminal op
word_is words.Div op is = search rules
word_is words.Rem op is = search rules
word_is words.And op is = search rules
word_is words.Or op is = search rules
word_is words.AndAlso op is = search rules
word_is words.OrElse op is = search rules
word_is _ op is = absurd (none-some op is)

pub infix_is : (ts : List Terminal) (op : Infix) → infix_ahead ts ≡ Some op → ts ≡ infix_terminal op ∷ behind_first ts
infix_is [] op is = absurd (none-some op is)
infix_is (mark m ∷ ts) op is = ap (λ t. t ∷ ts) (mark_is m op is)
infix_is (word w ∷ ts) op is = ap (λ t. t ∷ ts) (word_is w op is)
infix_is (_ ∷ ts) op is = absurd (none-some op is)
