-- What is noted so far.
use Rattle.otp_review.specs.OnOtp.{FailsAt}
use Rattle.upgrade_review.proofs.Adding.{UpTo}
use Rattle.upgrade_review.specs.Gathering.{Adds}
use Rattle.otp_review.proofs.supervisors.note_supervisors.Given as goal

abbrev pub invariant-loop-index : goal.invariant-loop-index
invariant-loop-index l = Adds (UpTo (FailsAt l.way l.left l.script) l.script l.index) l.fn.found.items l.found.items
