-- What is noted so far.
use Rattle.std.proofs.Common.{ℕ}
use Rattle.low_instructions.specs.declared.modules.Suspension.{Suspension}
use Rattle.upgrade_review.proofs.Adding.{UpTo}
use Rattle.upgrade_review.specs.Gathering.{Adds}
use Rattle.otp_review.specs.OnOtp.{IsNotResumed}
use Rattle.otp_review.proofs.names.note_suspend.Given as goal

abbrev pub invariant-loop-suspension : goal.invariant-loop-suspension
invariant-loop-suspension l =
    let R = λ (j : ℕ) (it : Suspension). IsNotResumed l.way l.script l.index it.name in
    Adds (UpTo R l.modules l.suspension-index) l.fn.found.items l.found.items
