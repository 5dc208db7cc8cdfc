-- By the serials, which differ.
use Rattle.process.proofs.FoundAgain.{are_found_again}
use Rattle.process.proofs.named.instances_are_found_again.Goals as goal

pub returns : goal.returns
returns c = are_found_again
