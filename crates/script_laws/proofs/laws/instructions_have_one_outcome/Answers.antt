-- By the outcome of each instruction.
use Rattle.script_laws.proofs.OneOutcome.{instructions_have_one_outcome}
use Rattle.script_laws.proofs.laws.instructions_have_one_outcome.Goals as goal

pub returns : goal.returns
returns c = instructions_have_one_outcome
