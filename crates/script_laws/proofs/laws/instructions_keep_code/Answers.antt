-- By what each instruction does to modules and to processes.
use Rattle.script_laws.proofs.CurrentCode.{instructions_keep_code}
use Rattle.script_laws.proofs.laws.instructions_keep_code.Goals as goal

pub returns : goal.returns
returns c = instructions_keep_code
