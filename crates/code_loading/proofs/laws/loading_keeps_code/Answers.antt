-- By what stands in the table of modules after each change of it.
use Rattle.code_loading.proofs.Consistency.{loading_keeps_code}
use Rattle.code_loading.proofs.laws.loading_keeps_code.Goals as goal

pub returns : goal.returns
returns c = loading_keeps_code
