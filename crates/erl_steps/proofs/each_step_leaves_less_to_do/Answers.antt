use Rattle.erl_steps.proofs.Falls.{step_falls}
use Rattle.erl_steps.proofs.each_step_leaves_less_to_do.Goals as goal

pub returns : goal.returns
returns c = λ w next m going. step_falls w next m going
