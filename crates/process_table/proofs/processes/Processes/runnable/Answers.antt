-- The next pid of the set is the next whose process could take a message.
use Rattle.std.proofs.Common.{◌+◌, subst}
use Rattle.ready_set.specs.Flags.{IsNext}
use Rattle.process_table.proofs.Runnable.{next_runnable}
use Rattle.process_table.proofs.processes.Processes.runnable.Goals as goal

pub returns : goal.returns
returns c =
    next_runnable c.args.after c.args.self.now c.next.result (subst (λ flags. IsNext (c.args.after + 1) flags c.next.result) c.ready.ensures c.next.ensures)
