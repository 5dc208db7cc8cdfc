use Rattle.erl_semantics.proofs.expressions_have_one_result.Goals as goal
use Rattle.erl_semantics.proofs.Uniqueness.{eval-once}

pub returns : goal.returns
returns c = λ w a tail e s r q s1 s2 d f. eval-once w d f
