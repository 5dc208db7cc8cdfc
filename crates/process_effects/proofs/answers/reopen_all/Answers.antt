-- The calls are open again, from the last on.
use Rattle.std.proofs.Common.{arith}
use Rattle.process_effects.proofs.Unsending.{reopens_next}
use Rattle.process_effects.proofs.answers.reopen_all.Goals as goal

pub reopen-requires : goal.reopen-requires
reopen-requires c =
    reopens_next c.args.closed.now c.loop-index.index (record { pid = 0; call = record { client = 0; number = 0 } }) c.args.store.now c.loop-index.store c.loop-index-test.true (omega (arith, c.loop-index.auto.index)) c.requires c.loop-index.invariant.opened
