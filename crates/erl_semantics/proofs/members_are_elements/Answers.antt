use Rattle.erl_semantics.proofs.members_are_elements.Goals as goal
use Rattle.erl_semantics.proofs.OperatorLaws.{members}

pub returns : goal.returns
returns c = members
