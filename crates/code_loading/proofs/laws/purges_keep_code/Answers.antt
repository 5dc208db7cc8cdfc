-- By what stands in the table of modules after a removal.
use Rattle.code_loading.proofs.Removals.{purges_keep_code}
use Rattle.code_loading.proofs.laws.purges_keep_code.Goals as goal

pub returns : goal.returns
returns c = purges_keep_code
