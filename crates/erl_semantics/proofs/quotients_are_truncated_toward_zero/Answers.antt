use Rattle.erl_semantics.proofs.quotients_are_truncated_toward_zero.Goals as goal
use Rattle.erl_semantics.proofs.OperatorLaws.{quotient_and_remainder, smaller, sign, by_zero, remainder_is_there, quotient_is_there}
use Rattle.erl_semantics.proofs.OperatorLaws.{past_the_limits}

pub returns : goal.returns
returns c = record {
  whole = quotient_and_remainder;
  smaller = smaller;
  sign = sign;
  by_zero = by_zero;
  remainder = remainder_is_there;
  quotient = quotient_is_there;
  past = past_the_limits;
}
