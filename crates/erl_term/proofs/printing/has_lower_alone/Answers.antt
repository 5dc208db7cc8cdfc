-- Each byte, one by one.
use Rattle.std.proofs.Common.{rules, tests}
use Rattle.std.proofs.lemmas.Iterator.{YieldsList-from_slice}
use Rattle.std.proofs.lemmas.Iterator.Search.{all_from_yields_List}
use Rattle.erl_term.specs.Text.{is_lower}
use Rattle.erl_term.proofs.printing.has_lower_alone.Goals as goal

pub returns : goal.returns
returns c =
    all_from_yields_List (λ b. is_lower b) _ _ c.all.result c.all.ensures.ran (YieldsList-from_slice _ c.iter.ensures.rest) (λ x b q k. search (rules, tests))
