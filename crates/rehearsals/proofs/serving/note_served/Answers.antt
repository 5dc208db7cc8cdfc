-- First the exits, then the calls, and then the names.
use Rattle.std.proofs.Common.{◌⊎◌}
use Rattle.upgrade_review.proofs.Adding.{adds_both}
use Rattle.upgrade_review.proofs.Noting.{on_ok}
use Rattle.upgrade_review.specs.Gathering.{Adds}
use Rattle.rehearsals.specs.Observing.{IsCallDown, IsExit, IsNewlyUnheard, IsServedBadly}
use Rattle.rehearsals.proofs.serving.note_served.Goals as goal

pub returns : goal.returns
returns c =
    let when = c.args.when in
    let first = c.args.first.now in
    let happened = c.args.happened.now in
    let old = c.args.found.now.items in
    let ended = c.note_exits.new.found.items in
    let down = c.note_downs.new.found.items in
    let new = c.note_unheard.new.found.items in
    on_ok c.note_unheard.result (Adds (IsNewlyUnheard when first happened) down new) (Adds (IsServedBadly when first happened) old new)
    (λ names. adds_both (IsExit when happened) (λ o. IsCallDown when happened o ⊎ IsNewlyUnheard when first happened o) old ended new
    c.in_ok-note_exits.ensures
    (adds_both (IsCallDown when happened) (IsNewlyUnheard when first happened) ended down new c.in_ok-note_downs.ensures names))
    c.note_unheard.ensures
