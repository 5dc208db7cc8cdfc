-- The old code is taken, and those who lingered in it.
use Rattle.code_loading.proofs.CodePieces.{removal_taken, takes_back}
use Rattle.code_loading.proofs.removing.remove.Goals as goal

pub returns-clause-inverse : goal.returns-clause-inverse
returns-clause-inverse c =
    let name = c.args.name.now in
    let m = c.args.modules.now in
    let after = c.remove.new.self in
    let lost = removal_taken name c.args.post c.remove.result m after c.remove.ensures.inverse c.remove.ensures.removed c.remove.ensures.pieces in
    takes_back name c.remove.result c.in_ok-killed.killed m after c.args.processes.now c.kill_lingering.new.processes c.remove.ensures.inverse c.in_ok-killed.ensures.inverse c.remove.ensures.old_code lost c.in_ok-killed.ensures.pieces
