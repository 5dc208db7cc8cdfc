-- What the changes hold is lost.
use Rattle.std.proofs.Common.{subst}
use Rattle.process_store.specs.Pieces.{HoldsLost}
use Rattle.process_store.specs.Table.{Table}
use Rattle.process_table.specs.States.{held_places}
use Rattle.process_table.proofs.processes.Processes.restate_all.Goals as goal

pub returns-clause-pieces : goal.returns-clause-pieces
returns-clause-pieces c =
    subst (λ (t : Table). HoldsLost (held_places c.restate_all.new.changes c.restate_all.new.store) t c.restate_all.new.store) c.self.view_is c.restate_all.ensures.pieces
