-- First one kind, and then the others.
use Rattle.std.proofs.Common.{◌⊎◌}
use Rattle.upgrade_review.proofs.Adding.{adds_both}
use Rattle.upgrade_review.proofs.Noting.{on_ok}
use Rattle.upgrade_review.specs.Gathering.{Adds}
use Rattle.rehearsals.specs.Observing.{IsKill, IsNobody, IsOfInstruction, IsOtherwiseOnOtp}
use Rattle.rehearsals.specs.declared.observing.Observation.{Observation}
use Rattle.rehearsals.proofs.observing.note_instruction.Goals as goal

pub returns : goal.returns
returns c =
    let way = c.args.direction in
    let i = c.args.index in
    let s = c.args.station.now in
    let before = c.args.before.now in
    let old = c.args.found.now.items in
    let between = c.note_nobody.new.found.items in
    let killed = c.note_killed.new.found.items in
    let new = c.note_otherwise.new.found.items in
    let Q : Observation → Type 0 = λ o. IsKill way i before s o ⊎ IsOtherwiseOnOtp way i before s o in
    on_ok c.note_otherwise.result (Adds (IsOtherwiseOnOtp way i before s) killed new) (Adds (IsOfInstruction way i before s) old new)
    (λ last. adds_both (IsNobody way i s) Q old between new c.in_ok-note_nobody.ensures
    (adds_both (IsKill way i before s) (IsOtherwiseOnOtp way i before s) between killed new c.in_ok-note_killed.ensures last))
    c.note_otherwise.ensures
