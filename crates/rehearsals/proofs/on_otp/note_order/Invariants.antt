-- What is noted so far.
use Rattle.std.proofs.Common.{◌≡◌}
use Rattle.upgrade_review.proofs.Adding.{UpTo}
use Rattle.upgrade_review.specs.Gathering.{Adds}
use Rattle.rehearsals.specs.declared.observing.Observation.TheVariants.{OrderOnOtp}
use Rattle.rehearsals.proofs.on_otp.note_order.Given as goal

abbrev pub invariant-loop-name : goal.invariant-loop-name
invariant-loop-name l =
    Adds (UpTo (λ i m o. o ≡ OrderOnOtp l.way l.index m) l.name-items l.name-index) l.fn.found.items l.found.items
