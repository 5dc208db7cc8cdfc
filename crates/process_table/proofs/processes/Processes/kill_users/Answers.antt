-- The record of a kill holds what has left.
use Rattle.std.proofs.Common.{List, sym, subst}
use Rattle.process_effects.specs.EndedPieces.{held_by_all}
use Rattle.process_effects.specs.declared.ending.EndedProcess.{EndedProcess}
use Rattle.process_store.specs.Pieces.{HoldsLost}
use Rattle.process_store.specs.Table.{Table}
use Rattle.process_table.proofs.processes.Processes.kill_users.Goals as goal

pub returns-clause-pieces : goal.returns-clause-pieces
returns-clause-pieces c =
    subst (λ (es : List EndedProcess). HoldsLost (held_by_all es) c.args.self.now c.kill_users.new.store) (sym c.new.ensures)
    (subst (λ (t : Table). HoldsLost (held_by_all c.in_ok-replies.killed.items) t c.kill_users.new.store) c.self.view_is c.in_ok-replies.ensures.pieces)
