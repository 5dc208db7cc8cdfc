-- What is noted so far.
use Rattle.upgrade_review.proofs.Adding.{UpTo}
use Rattle.upgrade_review.specs.Gathering.{Adds}
use Rattle.rehearsals.specs.Observing.{IsAtStation}
use Rattle.rehearsals.proofs.observing.note_stations.Given as goal

abbrev pub invariant-loop-index : goal.invariant-loop-index
invariant-loop-index l =
    Adds (UpTo (IsAtStation l.direction l.first l.way) l.way.stations.items l.index) l.fn.found.items l.found.items
