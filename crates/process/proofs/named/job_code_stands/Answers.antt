-- By the entries, whose names differ.
use Rattle.process.proofs.FoundAgain.{job_code_stands}
use Rattle.process.proofs.named.job_code_stands.Goals as goal

pub returns : goal.returns
returns c = job_code_stands
