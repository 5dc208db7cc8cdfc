-- Both are what is read.
use Rattle.module_forms.proofs.Modules.{one_module}
use Rattle.module_forms.proofs.module.modules_read_one_way.Goals as goal

pub returns : goal.returns
returns c = one_module
