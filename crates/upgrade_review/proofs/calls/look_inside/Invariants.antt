-- What is noted so far.
use Rattle.upgrade_review.proofs.Adding.{UpTo}
use Rattle.upgrade_review.specs.Calls.{IsAskingOf}
use Rattle.upgrade_review.specs.Gathering.{Adds}
use Rattle.upgrade_review.proofs.calls.look_inside.Given as goal

abbrev pub invariant-loop-server : goal.invariant-loop-server
invariant-loop-server l =
    Adds (UpTo (λ i server. IsAskingOf server) l.installed l.server-index) l.initial.found.items l.found.items
