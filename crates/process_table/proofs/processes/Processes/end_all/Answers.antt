-- The record of an end holds what has left.
use Rattle.std.proofs.Common.{List, sym, subst}
use Rattle.process_effects.specs.EndedPieces.{held_by_all}
use Rattle.process_effects.specs.declared.ending.EndedProcess.{EndedProcess}
use Rattle.process_store.specs.Pieces.{HoldsLost}
use Rattle.process_store.specs.Table.{Table}
use Rattle.process_table.proofs.processes.Processes.end_all.Goals as goal

pub returns-clause-pieces : goal.returns-clause-pieces
returns-clause-pieces c =
    subst (λ (es : List EndedProcess). HoldsLost (held_by_all es) c.args.self.now c.end_all.new.store) (sym c.new.ensures)
    (subst (λ (t : Table). HoldsLost (held_by_all c.in_ok-ended.ended.items) t c.end_all.new.store) c.self.view_is c.in_ok-ended.ensures.pieces)
