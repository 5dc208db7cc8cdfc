-- First the instructions, and then the end.
use Rattle.upgrade_review.proofs.Adding.{adds_both}
use Rattle.upgrade_review.proofs.Noting.{on_ok}
use Rattle.upgrade_review.specs.Gathering.{Adds, FromEach}
use Rattle.rehearsals.specs.Observing.{IsAtStation, IsLingering, IsOnWay}
use Rattle.rehearsals.proofs.observing.note_way.Goals as goal

pub returns : goal.returns
returns c =
    let way = c.args.direction in
    let w = c.args.way.now in
    let first = c.args.first.now in
    let old = c.args.found.now.items in
    let between = c.note_stations.new.found.items in
    let new = c.note_lingering.new.found.items in
    on_ok c.note_lingering.result (Adds (IsLingering way w) between new) (Adds (IsOnWay way first w) old new)
    (λ lingers. adds_both (FromEach (IsAtStation way first w) w.stations.items) (IsLingering way w) old between new
    c.in_ok-note_stations.ensures lingers)
    c.note_lingering.ensures
