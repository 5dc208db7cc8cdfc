-- The changes from here on are taken back.
use Rattle.std.proofs.Common.{◌≡◌, drop}
use Rattle.process_effects.specs.Batches.{all_undone}
use Rattle.process_effects.proofs.batch.take_all_back.Given as goal

abbrev pub invariant-loop-index : goal.invariant-loop-index
invariant-loop-index l = l.store ≡ all_undone (drop l.index l.changes) l.fn.store
