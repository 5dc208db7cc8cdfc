-- The old code is taken, and nobody lingered in it.
use Rattle.code_loading.proofs.CodePieces.{purge_taken, takes_back_alone}
use Rattle.code_loading.proofs.loading.soft_purge.Goals as goal

pub returns-in-Ok-clause-inverse : goal.returns-in-Ok-clause-inverse
returns-in-Ok-clause-inverse c =
    let m = c.args.modules.now in
    let after = c.soft_purge.new.self in
    let it = c.in-Ok.ensures in
    takes_back_alone c.in-Ok.purged m after c.args.processes.now it.inverse (purge_taken c.args.name.now c.in-Ok.purged m after it.purged it.pieces)
