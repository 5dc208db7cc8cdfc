use Rattle.erl_semantics.proofs.lists_are_reversed.Goals as goal
use Rattle.erl_semantics.proofs.OperatorLaws.{reverse_order, reversed_twice, length_is_kept}

pub returns : goal.returns
returns c = record { order = reverse_order; twice = reversed_twice; length = length_is_kept }
