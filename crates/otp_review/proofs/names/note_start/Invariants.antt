-- What is noted so far.
use Rattle.std.proofs.Common.{ℕ, List}
use Rattle.upgrade_review.proofs.Adding.{UpTo}
use Rattle.upgrade_review.specs.Gathering.{Adds}
use Rattle.otp_review.specs.OnOtp.{StartsNobody}
use Rattle.otp_review.proofs.names.note_start.Given as goal

abbrev pub invariant-loop-name : goal.invariant-loop-name
invariant-loop-name l =
    let R = λ (j : ℕ) (it : List ℕ). StartsNobody l.way l.script l.index it in
    Adds (UpTo R l.modules l.name-index) l.fn.found.items l.found.items
