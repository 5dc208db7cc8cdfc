-- A text that is not like one of the words is none; else each word is looked at, one by one.
use Rattle.std.proofs.Common.{rules, tests, sym, ◌∙◌}
use Rattle.std.specs.Str.{bytes_eq}
use Rattle.std.proofs.lemmas.Iterator.{YieldsList-from_slice}
use Rattle.std.proofs.lemmas.Iterator.Search.{any_from_yields_List}
use Rattle.erl_term.specs.Text.{is_quoted_word}
use Rattle.erl_term.proofs.Texts.{other-unquoted}
use Rattle.erl_term.proofs.printing.is_quoted_word.Goals as goal

pub returns-then-is_like_word : goal.returns-then-is_like_word
unfolding is_quoted_word
returns-then-is_like_word c =
    any_from_yields_List (λ w. bytes_eq w.now c.args.name.now) _ _ c.any.result c.any.ensures.ran (YieldsList-from_slice _ c.iter.ensures.rest) (λ x b q k. search (rules, tests))

pub returns-else-is_like_word : goal.returns-else-is_like_word
returns-else-is_like_word c =
    c.if-is_like_word.false ∙ sym (other-unquoted c.args.name.now (sym c.is_like_word.ensures ∙ c.if-is_like_word.false))
