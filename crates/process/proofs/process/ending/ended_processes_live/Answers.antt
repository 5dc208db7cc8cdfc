-- By what is found of names and serials.
use Rattle.process.proofs.Living.{ended_processes_live}
use Rattle.process.proofs.process.ending.ended_processes_live.Goals as goal

pub returns : goal.returns
returns c = ended_processes_live
