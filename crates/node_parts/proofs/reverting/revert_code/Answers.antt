-- The node before is what ran before, and all else that there is.
use Rattle.code_replacement.specs.Replacing.{running}
use Rattle.node_parts.proofs.Backs.{code_back}
use Rattle.node_parts.specs.Changes.{state_of}
use Rattle.node_parts.proofs.reverting.revert_code.Goals as goal

pub returns-in-Ok : goal.returns-in-Ok
returns-in-Ok c before undoes =
    let after = running c.revert.new.modules c.revert.new.processes c.revert.new.apps in
    code_back _ c.args.undo before (state_of c.args.parts.now) after c.open-undo.ensures undoes c.in-Ok.ensures.ok
