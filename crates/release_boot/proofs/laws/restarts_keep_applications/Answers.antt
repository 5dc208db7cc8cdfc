use Rattle.release_boot.proofs.Applications.{restarts_keep_applications}
use Rattle.release_boot.proofs.laws.restarts_keep_applications.Goals as goal

pub returns : goal.returns
returns c = restarts_keep_applications
