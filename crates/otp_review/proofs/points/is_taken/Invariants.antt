-- None of those so far is late.
use Rattle.std.proofs.Common.{◌≡◌, ◌<◌, ℕ, Some, false}
use Rattle.std.specs.List.{slice_get}
use Rattle.low_instructions.specs.declared.low.Low.{Low}
use Rattle.otp_review.specs.OnOtp.{is_late}
use Rattle.otp_review.proofs.points.is_taken.Given as goal

abbrev pub invariant-loop-index : goal.invariant-loop-index
invariant-loop-index l = (i : ℕ) (low : Low) → i < l.index → slice_get l.script i ≡ Some low → is_late l.script i low ≡ false
