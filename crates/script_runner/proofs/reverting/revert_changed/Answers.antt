-- The parts that were changed are as before.
use Rattle.script_runner.proofs.Backs.{changed_back}
use Rattle.script_runner.specs.Parts.{parts_of}
use Rattle.script_runner.proofs.reverting.revert_changed.Goals as goal

pub revert_code_change-requires : goal.revert_code_change-requires
revert_code_change-requires c = (c.requires.0.apps, c.requires.0.processes, c.requires.2.0)

pub returns-in-Ok-clause-ok : goal.returns-in-Ok-clause-ok
returns-in-Ok-clause-ok c = λ before code back.
    let now = parts_of c.args.modules.now c.args.processes.now c.args.apps.now c.args.progress.now in
    let both = c.in-Ok.ensures.ok before.apps before.processes back.0 in
    changed_back before now c.revert_code_change.new.apps c.revert_code_change.new.processes both.0 both.1 back.1
