-- Each word is looked at, one by one.
use Rattle.std.proofs.Common.{rules, tests}
use Rattle.std.specs.Str.{bytes_eq}
use Rattle.std.proofs.lemmas.Iterator.{YieldsList-from_slice}
use Rattle.std.proofs.lemmas.Iterator.Search.{any_from_yields_List}
use Rattle.console_answers.proofs.help.is_command.Goals as goal

pub returns : goal.returns
returns c =
    any_from_yields_List (λ w. bytes_eq w.now c.args.word.now) _ _ c.any.result c.any.ensures.ran (YieldsList-from_slice _ c.iter.ensures.rest) (λ x b q k. search (rules, tests))
