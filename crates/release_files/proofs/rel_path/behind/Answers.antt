-- By the front that is compared.
use Rattle.release_files.proofs.Fronts.{behind_told}
use Rattle.release_files.proofs.rel_path.behind.Goals as goal

pub returns : goal.returns
returns c = behind_told c.args.bytes.now c.args.front.now c.strip_prefix.result c.strip_prefix.ensures.cases
