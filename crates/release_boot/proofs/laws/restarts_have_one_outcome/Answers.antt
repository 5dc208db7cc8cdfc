use Rattle.release_boot.proofs.OneOutcome.{restarts_have_one_outcome}
use Rattle.release_boot.proofs.laws.restarts_have_one_outcome.Goals as goal

pub returns : goal.returns
returns c = restarts_have_one_outcome
