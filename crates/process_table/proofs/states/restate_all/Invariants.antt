-- Those so far have other states, and can have their former ones again.
use Rattle.process_table.proofs.Restating.{AreRestated}
use Rattle.process_table.proofs.states.restate_all.Given as goal

abbrev pub invariant-loop-change : goal.invariant-loop-change
invariant-loop-change l = AreRestated l.fn.changes l.fn.store l.change-index l.changes l.store
