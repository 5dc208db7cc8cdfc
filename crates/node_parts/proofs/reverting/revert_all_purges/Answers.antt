-- The node before is what ran before, with the statuses of before, and all else that there is.
use Rattle.code_replacement.specs.Replacing.{running}
use Rattle.node_parts.proofs.Backs.{purges_back}
use Rattle.node_parts.specs.Changes.{state_of}
use Rattle.node_parts.proofs.reverting.revert_all_purges.Goals as goal

pub returns-in-Ok : goal.returns-in-Ok
returns-in-Ok c before undoes =
    let after = running c.revert_purges.new.modules c.revert_purges.new.processes c.revert_purges.new.apps in
    purges_back _ c.args.undo c.args.statuses before (state_of c.args.parts.now) after c.put_statuses_back.new.releases c.open-undo.ensures undoes
    c.in-Ok.ensures.ok c.put_statuses_back.ensures
