use Rattle.release_boot.proofs.OneOutcome.{starts_have_one_outcome}
use Rattle.release_boot.proofs.laws.starts_have_one_outcome.Goals as goal

pub returns : goal.returns
returns c = starts_have_one_outcome
