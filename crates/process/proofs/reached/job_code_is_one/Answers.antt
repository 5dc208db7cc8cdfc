-- By both derivations.
use Rattle.process.proofs.JobCode.{IsJobCode-one}
use Rattle.process.proofs.reached.job_code_is_one.Goals as goal

pub returns : goal.returns
returns c = IsJobCode-one
