-- What is noted so far.
use Rattle.upgrade_review.proofs.Adding.{UpTo}
use Rattle.upgrade_review.specs.Gathering.{Adds, IsFoundAt}
use Rattle.upgrade_review.proofs.script_findings.note_instructions.Given as goal

abbrev pub invariant-loop-index : goal.invariant-loop-index
invariant-loop-index l = Adds (UpTo (IsFoundAt l.left l.installed l.script) l.script l.index) l.fn.found.items l.found.items
