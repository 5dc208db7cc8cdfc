use Rattle.erl_semantics.proofs.calls_from_outside_never_rest.Goals as goal
use Rattle.erl_semantics.proofs.OutcomeLaws.{evaluates_keeps}

pub returns : goal.returns
returns c = λ w m f args o d p is. (evaluates_keeps w m f args o d).returns p is
