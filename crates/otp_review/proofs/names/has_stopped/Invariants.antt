-- Whether children are kept stopped so far.
use Rattle.std.proofs.Common.{◌≡◌, false, take}
use Rattle.otp_review.specs.OnOtp.{stopped_after}
use Rattle.upgrade_review.specs.Suspended.{through}
use Rattle.otp_review.proofs.names.has_stopped.Given as goal

abbrev pub invariant-loop-low : goal.invariant-loop-low
invariant-loop-low l = l.kept ≡ through (stopped_after l.name) false (take l.low-index l.script)
