-- What is noted so far.
use Rattle.upgrade_review.proofs.Adding.{UpTo}
use Rattle.upgrade_review.specs.Gathering.{Adds}
use Rattle.otp_review.specs.OnOtp.{DiffersAt}
use Rattle.otp_review.proofs.names.note_instructions.Given as goal

abbrev pub invariant-loop-index : goal.invariant-loop-index
invariant-loop-index l = Adds (UpTo (DiffersAt l.way l.script) l.script l.index) l.fn.found.items l.found.items
