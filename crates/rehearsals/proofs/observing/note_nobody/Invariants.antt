-- What is noted so far.
use Rattle.std.proofs.Common.{◌≡◌}
use Rattle.upgrade_review.proofs.Adding.{UpTo}
use Rattle.upgrade_review.specs.Gathering.{Adds}
use Rattle.rehearsals.specs.declared.observing.Observation.TheVariants.{SuspendsNobody}
use Rattle.rehearsals.proofs.observing.note_nobody.Given as goal

abbrev pub invariant-loop-module : goal.invariant-loop-module
invariant-loop-module l =
    Adds (UpTo (λ i m o. o ≡ SuspendsNobody l.way l.index m) l.module-items l.module-index) l.fn.found.items l.found.items
