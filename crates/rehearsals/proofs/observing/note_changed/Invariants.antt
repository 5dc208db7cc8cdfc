-- What is noted so far.
use Rattle.std.proofs.Common.{◌≡◌, ◌<◌, ℕ}
use Rattle.node_views.specs.Changes.{process_of}
use Rattle.upgrade_review.specs.Gathering.{Adds}
use Rattle.rehearsals.specs.Observing.{HasOtherState}
use Rattle.rehearsals.specs.declared.observing.Observation.TheVariants.{NotRestored}
use Rattle.rehearsals.proofs.observing.note_changed.Given as goal

abbrev pub invariant-loop-pid : goal.invariant-loop-pid
invariant-loop-pid l = Adds (λ o. (p : ℕ) × (p < l.pid) × HasOtherState (process_of p l.before) (process_of p l.after)
    × (o ≡ NotRestored p)) l.fn.found.items l.found.items
