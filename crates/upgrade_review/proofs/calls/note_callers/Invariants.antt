-- What is noted so far.
use Rattle.upgrade_review.proofs.Adding.{UpTo}
use Rattle.upgrade_review.specs.Calls.{IsUnansweredOf}
use Rattle.upgrade_review.specs.Gathering.{Adds}
use Rattle.upgrade_review.proofs.calls.note_callers.Given as goal

abbrev pub invariant-loop-caller : goal.invariant-loop-caller
invariant-loop-caller l =
    let p = l.passage in
    Adds (UpTo (λ i caller. IsUnansweredOf p.way p.left.now p.installed.now p.script.now caller) l.callers l.caller-index)
    l.fn.found.items l.found.items
