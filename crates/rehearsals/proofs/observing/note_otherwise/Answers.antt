-- One kind after the other.
use Rattle.std.proofs.Common.{◌⊎◌}
use Rattle.upgrade_review.proofs.Adding.{adds_both}
use Rattle.upgrade_review.proofs.Noting.{on_ok}
use Rattle.upgrade_review.specs.Gathering.{Adds}
use Rattle.rehearsals.specs.Observing.{IsOtherwiseOnOtp}
use Rattle.rehearsals.specs.OnOtp.{IsOrder, IsPassedOver, IsTemporary}
use Rattle.rehearsals.specs.declared.observing.Observation.{Observation}
use Rattle.rehearsals.proofs.observing.note_otherwise.Goals as goal

pub returns : goal.returns
returns c =
    let way = c.args.way in
    let i = c.args.index in
    let s = c.args.station.now in
    let before = c.args.before.now in
    let old = c.args.found.now.items in
    let between = c.note_temporary.new.found.items in
    let passed = c.note_passed_over.new.found.items in
    let new = c.note_order.new.found.items in
    let Q : Observation → Type 0 = λ o. IsPassedOver way i s o ⊎ IsOrder way i before s o in
    on_ok c.note_order.result (Adds (IsOrder way i before s) passed new) (Adds (IsOtherwiseOnOtp way i before s) old new)
    (λ last. adds_both (IsTemporary way i s) Q old between new c.in_ok-note_temporary.ensures
    (adds_both (IsPassedOver way i s) (IsOrder way i before s) between passed new c.in_ok-note_passed_over.ensures last))
    c.note_order.ensures
