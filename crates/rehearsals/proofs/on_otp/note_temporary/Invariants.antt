-- What is noted so far.
use Rattle.std.proofs.Common.{◌≡◌}
use Rattle.upgrade_review.proofs.Adding.{UpTo}
use Rattle.upgrade_review.specs.Gathering.{Adds}
use Rattle.rehearsals.specs.declared.observing.Observation.TheVariants.{TemporaryOnOtp}
use Rattle.rehearsals.proofs.on_otp.note_temporary.Given as goal

abbrev pub invariant-loop-pid : goal.invariant-loop-pid
invariant-loop-pid l =
    Adds (UpTo (λ i pid o. o ≡ TemporaryOnOtp l.way l.index pid) l.pid-items l.pid-index) l.fn.found.items l.found.items
