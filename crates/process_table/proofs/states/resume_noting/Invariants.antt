-- Those so far are resumed, and whether they were suspended is noted.
use Rattle.process_table.proofs.Resuming.{AreResumed}
use Rattle.process_table.proofs.states.resume_noting.Given as goal

abbrev pub invariant-loop-it : goal.invariant-loop-it
invariant-loop-it l = AreResumed l.fn.resumed l.fn.store l.it-index l.resumed l.store
