-- What is noted so far.
use Rattle.upgrade_review.proofs.Adding.{UpTo}
use Rattle.upgrade_review.specs.Gathering.{Adds, IsNotLoaded}
use Rattle.upgrade_review.proofs.modules.note_modules.Given as goal

abbrev pub invariant-loop-code : goal.invariant-loop-code
invariant-loop-code l =
    Adds (UpTo (λ i code. IsNotLoaded l.left l.script l.files.spec.name code) l.codes l.code-index) l.fn.found.items l.found.items
