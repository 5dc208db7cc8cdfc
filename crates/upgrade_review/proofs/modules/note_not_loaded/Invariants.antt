-- What is noted so far.
use Rattle.upgrade_review.proofs.Adding.{UpTo}
use Rattle.upgrade_review.specs.Gathering.{Adds, IsNotLoadedOf}
use Rattle.upgrade_review.proofs.modules.note_not_loaded.Given as goal

abbrev pub invariant-loop-files : goal.invariant-loop-files
invariant-loop-files l =
    Adds (UpTo (λ i files. IsNotLoadedOf l.left l.script files) l.apps l.files-index) l.fn.found.items l.found.items
