-- What is noted so far.
use Rattle.upgrade_review.proofs.Adding.{UpTo}
use Rattle.upgrade_review.specs.Calls.{IsOutsideCall}
use Rattle.upgrade_review.specs.Gathering.{Adds}
use Rattle.upgrade_review.proofs.calls.note_outside_of.Given as goal

abbrev pub invariant-loop-call : goal.invariant-loop-call
invariant-loop-call l =
    Adds (UpTo (λ i call. IsOutsideCall l.left l.installed l.caller.name call) l.calls l.call-index) l.fn.found.items l.found.items
