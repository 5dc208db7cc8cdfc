-- What is noted so far.
use Rattle.upgrade_review.proofs.Adding.{UpTo}
use Rattle.upgrade_review.specs.Gathering.{Adds}
use Rattle.rehearsals.specs.Observing.{IsUnheardOf}
use Rattle.rehearsals.proofs.serving.note_unheard.Given as goal

abbrev pub invariant-loop-happening : goal.invariant-loop-happening
invariant-loop-happening l =
    Adds (UpTo (λ i h o. IsUnheardOf l.when l.first h o) l.happened l.happening-index) l.fn.found.items l.found.items
