-- By what is found of names and serials.
use Rattle.process.proofs.Reruns.{jobs_run_again}
use Rattle.process.proofs.process.rerunning.jobs_run_again.Goals as goal

pub returns : goal.returns
returns c = jobs_run_again
