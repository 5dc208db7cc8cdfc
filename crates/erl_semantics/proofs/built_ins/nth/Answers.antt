use Rattle.erl_semantics.proofs.built_ins.nth.Goals as goal
use Rattle.erl_semantics.proofs.Elements.{nth_matches, element_nowhere}

pub returns-in-Some : goal.returns-in-Some
returns-in-Some c = nth_matches _ _ _ c.in-Some.index c.item_at.result c.as_slice-terms.ensures c.in-Some.ensures c.item_at.ensures

pub returns-in-None : goal.returns-in-None
returns-in-None c = element_nowhere _ _ c.in-None.ensures
