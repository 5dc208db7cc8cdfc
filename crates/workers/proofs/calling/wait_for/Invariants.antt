-- Replies were read, and none was the one that is waited for.
use Rattle.workers.specs.Calling.{HasRead, reads_of}
use Rattle.workers.proofs.calling.wait_for.Given as goal

abbrev pub invariant-loop-wait : goal.invariant-loop-wait
invariant-loop-wait g l = HasRead l.number l.first l.from (reads_of l.wait) l.initial.seat l.seat
