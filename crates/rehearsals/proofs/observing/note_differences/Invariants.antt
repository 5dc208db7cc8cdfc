-- What is noted so far.
use Rattle.std.proofs.Common.{◌≡◌}
use Rattle.upgrade_review.proofs.Adding.{UpTo}
use Rattle.upgrade_review.specs.Gathering.{Adds}
use Rattle.rehearsals.specs.declared.observing.Observation.TheVariants.{Differs}
use Rattle.rehearsals.proofs.observing.note_differences.Given as goal

abbrev pub invariant-loop-difference : goal.invariant-loop-difference
invariant-loop-difference l =
    Adds (UpTo (λ i d o. o ≡ Differs d) l.differences l.difference-index) l.fn.found.items l.found.items
