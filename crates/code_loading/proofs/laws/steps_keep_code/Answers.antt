-- By what each process uses after each step.
use Rattle.code_loading.proofs.Stepping.{steps_keep_code}
use Rattle.code_loading.proofs.laws.steps_keep_code.Goals as goal

pub returns : goal.returns
returns c = steps_keep_code
