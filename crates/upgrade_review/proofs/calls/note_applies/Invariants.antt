-- What is noted so far.
use Rattle.upgrade_review.proofs.Adding.{UpTo}
use Rattle.upgrade_review.specs.Calls.{AppliesNobodyBy}
use Rattle.upgrade_review.specs.Gathering.{Adds}
use Rattle.upgrade_review.proofs.calls.note_applies.Given as goal

abbrev pub invariant-loop-index : goal.invariant-loop-index
invariant-loop-index l =
    let p = l.passage in
    Adds (UpTo (AppliesNobodyBy p.way p.left.now p.installed.now p.script.now) l.script l.index) l.fn.found.items l.found.items
