-- What is noted so far.
use Rattle.upgrade_review.proofs.Adding.{UpTo}
use Rattle.upgrade_review.specs.Gathering.{Adds, IsNotUndoneAt}
use Rattle.upgrade_review.proofs.script_findings.note_not_undone.Given as goal

abbrev pub invariant-loop-index : goal.invariant-loop-index
invariant-loop-index l = Adds (UpTo (IsNotUndoneAt l.down) l.up l.index) l.fn.found.items l.found.items
