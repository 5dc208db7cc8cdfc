-- The record of a commit is that of the step, and holds what that holds.
use Rattle.std.proofs.Common.{subst}
use Rattle.process_effects.specs.Commits.{RestsBack}
use Rattle.process_effects.specs.CommitPieces.{held_of}
use Rattle.process_store.specs.Pieces.{HoldsLost}
use Rattle.process_store.specs.Table.{Table}
use Rattle.process_table.proofs.processes.Processes.rest.Goals as goal

pub returns-clause-inverse : goal.returns-clause-inverse
returns-clause-inverse c =
    subst (λ (t : Table). RestsBack c.in_ok-replies.rested t c.commit_rest.new.store) c.self.view_is c.in_ok-replies.ensures.inverse

pub returns-clause-pieces : goal.returns-clause-pieces
returns-clause-pieces c =
    subst (λ (t : Table). HoldsLost (held_of c.in_ok-replies.rested c.commit_rest.new.store) t c.commit_rest.new.store) c.self.view_is c.in_ok-replies.ensures.pieces
