-- The old code is taken, and those who lingered in it.
use Rattle.code_loading.proofs.CodePieces.{purge_taken, takes_back}
use Rattle.code_loading.proofs.loading.purge.Goals as goal

pub returns-clause-inverse : goal.returns-clause-inverse
returns-clause-inverse c =
    let name = c.args.name.now in
    let m = c.args.modules.now in
    let after = c.purge.new.self in
    let lost = purge_taken name c.purge.result m after c.purge.ensures.purged c.purge.ensures.pieces in
    takes_back name c.purge.result c.in_ok-killed.killed m after c.args.processes.now c.kill_lingering.new.processes c.purge.ensures.inverse c.in_ok-killed.ensures.inverse c.purge.ensures.old_code lost c.in_ok-killed.ensures.pieces
