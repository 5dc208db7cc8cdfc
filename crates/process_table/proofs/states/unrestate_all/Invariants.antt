-- Those so far have their former states again.
use Rattle.process_table.proofs.Restating.{AreUnrestated}
use Rattle.process_table.proofs.states.unrestate_all.Given as goal

abbrev pub invariant-loop-change : goal.invariant-loop-change
invariant-loop-change l = AreUnrestated l.fn.changes l.fn.store l.change-index l.changes l.store
