use Rattle.erl_semantics.proofs.built_ins.call_built_in.Goals as goal
use Rattle.erl_semantics.proofs.Elements.{some_terms}

pub of_more-requires-clause-some : goal.of_more-requires-clause-some
of_more-requires-clause-some c = λ e. some_terms _ c.if-is_empty.ensures e
