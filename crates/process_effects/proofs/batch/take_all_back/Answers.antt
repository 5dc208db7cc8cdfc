-- The one before those can be taken back.
use Rattle.std.proofs.Common.{arith}
use Rattle.process_effects.proofs.Undoing.{fits_next}
use Rattle.process_effects.specs.declared.change.Addition.TheVariants.{Sent}
use Rattle.process_effects.proofs.batch.take_all_back.Goals as goal

pub take_back-requires : goal.take_back-requires
take_back-requires c =
    fits_next c.args.changes.now c.loop-index.index (Sent 0) c.args.store.now c.loop-index.store c.loop-index-test.true (omega (arith, c.loop-index.auto.index)) c.requires c.loop-index.invariant
