-- What stands between and behind the parts of an expression.
use Rattle.std.specs.Prelude.{Bool, true, false, if◌then◌else◌, List, [], ◌∷◌, Option, None, Some}
use Rattle.erl_scan.specs.declared.mark.Mark.TheVariants as marks
use Rattle.erl_scan.specs.declared.word.Word.TheVariants as words
use Rattle.erl_ast.specs.Terminal.{Terminal, mark, word}
use Rattle.erl_expressions.specs.declared.delimiter.Delimiter.{Delimiter}
use Rattle.erl_expressions.specs.declared.delimiter.Delimiter.TheVariants as delimiters

-- each as it is written
abbrev pub delimiter : Delimiter → Terminal
delimiter delimiters.Comma = mark marks.Comma
delimiter delimiters.Semicolon = mark marks.Semicolon
delimiter delimiters.Bar = mark marks.Bar
delimiter delimiters.Arrow = mark marks.Arrow
delimiter delimiters.CloseParen = mark marks.CloseParen
delimiter delimiters.CloseBrace = mark marks.CloseBrace
delimiter delimiters.CloseBracket = mark marks.CloseBracket
delimiter delimiters.When = word words.When
delimiter delimiters.Of = word words.Of
delimiter delimiters.End = word words.End

abbrev pub is_delimiter : Delimiter → Terminal → Bool
is_delimiter delimiters.Comma (mark marks.Comma) = true
is_delimiter delimiters.Semicolon (mark marks.Semicolon) = true
is_delimiter delimiters.Bar (mark marks.Bar) = true
is_delimiter delimiters.Arrow (mark marks.Arrow) = true
is_delimiter delimiters.CloseParen (mark marks.CloseParen) = true
is_delimiter delimiters.CloseBrace (mark marks.CloseBrace) = true
is_delimiter delimiters.CloseBracket (mark marks.CloseBracket) = true
is_delimiter delimiters.When (word words.When) = true
is_delimiter delimiters.Of (word words.Of) = true
is_delimiter delimiters.End (word words.End) = true
is_delimiter d t = false

-- what is left behind a delimiter, where it comes first
abbrev pub after : Delimiter → List Terminal → Option (List Terminal)
after d [] = None
after d (t ∷ ts) = if is_delimiter d t then Some ts else None
