-- By the ending that is compared.
use Rattle.release_files.proofs.Fronts.{in_front_told}
use Rattle.release_files.proofs.rel_path.in_front.Goals as goal

pub returns : goal.returns
returns c = in_front_told c.args.bytes.now c.args.ending.now c.strip_suffix.result c.strip_suffix.ensures.cases
