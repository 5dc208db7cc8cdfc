-- What is noted so far.
use Rattle.std.proofs.Common.{◌≡◌}
use Rattle.upgrade_review.proofs.Adding.{UpTo}
use Rattle.upgrade_review.specs.Gathering.{Adds}
use Rattle.rehearsals.specs.declared.observing.Observation.TheVariants.{Lingers}
use Rattle.rehearsals.proofs.observing.note_lingering.Given as goal

abbrev pub invariant-loop-lingering : goal.invariant-loop-lingering
invariant-loop-lingering l =
    Adds (UpTo (λ i u o. o ≡ Lingers l.direction u.0 u.1) l.lingering-items l.lingering-index) l.fn.found.items l.found.items
