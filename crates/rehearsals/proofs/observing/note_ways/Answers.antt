-- First the way up, and then the way down.
use Rattle.std.proofs.Common.{List, subst}
use Rattle.low_instructions.specs.declared.modules.Direction.TheVariants.{Up}
use Rattle.upgrade_review.proofs.Adding.{adds_both}
use Rattle.upgrade_review.proofs.Noting.{on_ok}
use Rattle.upgrade_review.specs.Gathering.{Adds}
use Rattle.rehearsals.specs.Observing.{IsOnWay, IsOnWayDown, IsOnWays, happened_last}
use Rattle.rehearsals.specs.declared.happening.Happening.{Happening}
use Rattle.rehearsals.proofs.observing.note_ways.Goals as goal

pub returns : goal.returns
returns c =
    let first = c.args.first.now in
    let r = c.args.rehearsal.now in
    let old = c.args.found.now.items in
    let between = c.note_way.new.found.items in
    let new = c.note_way_down.new.found.items in
    let last = happened_last first r.up in
    on_ok c.note_way_down.result (Adds (IsOnWayDown c.happened_last.result.now r.down) between new) (Adds (IsOnWays first r) old new)
    (λ down. adds_both (IsOnWay Up first r.up) (IsOnWayDown last r.down) old between new c.in_ok-note_way.ensures
    (subst (λ (hs : List Happening). Adds (IsOnWayDown hs r.down) between new) c.happened_last.ensures down))
    c.note_way_down.ensures
