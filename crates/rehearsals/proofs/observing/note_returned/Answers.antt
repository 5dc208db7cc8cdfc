-- First those that have another state, and then those that no longer live.
use Rattle.upgrade_review.proofs.Adding.{adds_both}
use Rattle.upgrade_review.proofs.Noting.{on_ok}
use Rattle.upgrade_review.specs.Gathering.{Adds}
use Rattle.rehearsals.specs.Observing.{HasVanished, IsNotRestored, IsOtherwise}
use Rattle.rehearsals.proofs.observing.note_returned.Goals as goal

pub returns : goal.returns
returns c =
    let before = c.args.before.now in
    let after = c.args.after.now in
    let old = c.args.found.now.items in
    let between = c.note_changed.new.found.items in
    let new = c.note_vanished.new.found.items in
    on_ok c.note_vanished.result (Adds (HasVanished before after) between new) (Adds (IsOtherwise before after) old new)
    (λ vanished. adds_both (IsNotRestored before after) (HasVanished before after) old between new c.in_ok-note_changed.ensures
    vanished)
    c.note_vanished.ensures
