-- The last messages of those from here on are gone.
use Rattle.std.proofs.Common.{◌≡◌, drop}
use Rattle.process_effects.specs.Parted.{all_unsent}
use Rattle.process_effects.proofs.sends.unsend_all.Given as goal

abbrev pub invariant-loop-index : goal.invariant-loop-index
invariant-loop-index l = l.store ≡ all_unsent (drop l.index l.receivers) l.fn.store
