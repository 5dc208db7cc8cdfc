-- The record of a commit is that of the step, in its own memory, and holds what that holds.
use Rattle.std.proofs.Common.{sym, subst}
use Rattle.process_effects.specs.declared.exiting.Exited.{Exited}
use Rattle.process_effects.specs.EndedPieces.{held_by}
use Rattle.process_store.specs.Pieces.{HoldsLost}
use Rattle.process_store.specs.Table.{Table}
use Rattle.process_table.proofs.processes.Processes.exit.Goals as goal

pub returns-clause-pieces : goal.returns-clause-pieces
returns-clause-pieces c =
    let held = subst (λ (t : Table). HoldsLost (held_by c.in_ok-replies.exited.ended) t c.commit_exit.new.store) c.self.view_is c.in_ok-replies.ensures.pieces in
    subst (λ (x : Exited). HoldsLost (held_by x.ended) c.args.self.now c.commit_exit.new.store) (sym c.fill.ensures) held
