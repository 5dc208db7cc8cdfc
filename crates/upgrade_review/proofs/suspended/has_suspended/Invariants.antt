-- Whether processes are kept suspended so far.
use Rattle.std.proofs.Common.{◌≡◌, false, take}
use Rattle.upgrade_review.specs.Suspended.{kept_after, through}
use Rattle.upgrade_review.proofs.suspended.has_suspended.Given as goal

abbrev pub invariant-loop-low : goal.invariant-loop-low
invariant-loop-low l = l.kept ≡ through (kept_after l.name) false (take l.low-index l.script)
