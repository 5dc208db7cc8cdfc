-- Which code is current so far.
use Rattle.std.proofs.Common.{◌≡◌, take}
use Rattle.upgrade_review.specs.Calls.{current_by}
use Rattle.upgrade_review.specs.declared.calls.Current.TheVariants.{Left}
use Rattle.upgrade_review.proofs.calls.current_by.Given as goal

abbrev pub invariant-loop-low : goal.invariant-loop-low
invariant-loop-low l = l.current ≡ current_by l.name Left (take l.low-index l.script)
