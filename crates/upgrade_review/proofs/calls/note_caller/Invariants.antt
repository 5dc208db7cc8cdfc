-- What is noted so far.
use Rattle.upgrade_review.proofs.Adding.{UpTo}
use Rattle.upgrade_review.specs.Calls.{IsUnansweredCall}
use Rattle.upgrade_review.specs.Gathering.{Adds}
use Rattle.upgrade_review.proofs.calls.note_caller.Given as goal

abbrev pub invariant-loop-call : goal.invariant-loop-call
invariant-loop-call l =
    let p = l.passage in
    Adds (UpTo (λ i call. IsUnansweredCall p.way p.left.now p.installed.now p.script.now l.caller.application l.caller.name call) l.calls l.call-index)
    l.fn.found.items l.found.items
