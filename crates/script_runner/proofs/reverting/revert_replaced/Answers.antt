-- The parts before are what ran before, and all else that there is.
use Rattle.code_replacement.specs.Replacing.{running}
use Rattle.script_runner.proofs.Backs.{running_back}
use Rattle.script_runner.specs.Instructions.{running_of}
use Rattle.script_runner.specs.Parts.{parts_of}
use Rattle.script_runner.proofs.reverting.revert_replaced.Goals as goal

pub returns-in-Ok-clause-ok : goal.returns-in-Ok-clause-ok
returns-in-Ok-clause-ok c before has takes =
    let q = parts_of c.args.modules.now c.args.processes.now c.args.apps.now c.args.progress.now in
    let after = running c.revert.new.modules c.revert.new.processes c.revert.new.apps in
    running_back before q after (c.in-Ok.ensures.ok (running_of before) has takes.0) takes.1
