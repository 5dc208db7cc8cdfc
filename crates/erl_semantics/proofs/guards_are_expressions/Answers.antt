use Rattle.erl_semantics.proofs.guards_are_expressions.Goals as goal
use Rattle.erl_semantics.proofs.GuardLaws.{guards_are_expressions, values_are_values}

pub returns : goal.returns
returns c = record { expressions = guards_are_expressions; values = values_are_values }
