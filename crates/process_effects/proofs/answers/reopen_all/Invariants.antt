-- Those from here on are open again, and can be closed again.
use Rattle.std.proofs.Common.{◌≡◌, drop}
use Rattle.process_effects.specs.Parted.{all_reclosed, all_reopened}
use Rattle.process_effects.proofs.answers.reopen_all.Given as goal

abbrev pub invariant-loop-index : goal.invariant-loop-index
invariant-loop-index l = record {
  opened : l.store ≡ all_reopened (drop l.index l.closed) l.fn.store;
  again : all_reclosed (drop l.index l.closed) l.store ≡ l.fn.store;
}
