-- Those that are left are closed as all are.
use Rattle.std.proofs.Common.{◌≡◌, drop}
use Rattle.process_effects.specs.Parted.{all_reclosed}
use Rattle.process_effects.proofs.answers.close_again.Given as goal

abbrev pub invariant-loop-each : goal.invariant-loop-each
invariant-loop-each l = all_reclosed (drop l.each-index l.closed) l.store ≡ all_reclosed l.closed l.fn.store
