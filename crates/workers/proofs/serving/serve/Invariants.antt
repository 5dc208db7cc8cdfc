-- So many rounds were done.
use Rattle.workers.specs.Serving.{HasServed}
use Rattle.workers.proofs.serving.serve.Given as goal

abbrev pub invariant-loop : goal.invariant-loop
invariant-loop g l = HasServed l.counter l.above l.initial.seat l.seat l.served
