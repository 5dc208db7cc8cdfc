-- First the instruction itself, then the messages that were served after it, and then the process that still had a message to
-- take.
use Rattle.std.proofs.Common.{◌⊎◌, List, subst}
use Rattle.node_views.specs.declared.node_view.NodeView.{NodeView}
use Rattle.upgrade_review.proofs.Adding.{adds_both}
use Rattle.upgrade_review.proofs.Noting.{on_ok}
use Rattle.upgrade_review.specs.Gathering.{Adds}
use Rattle.rehearsals.specs.Observing.{IsAtStation, IsOfInstruction, IsServedBadly, IsStillAtIt, before_of, happened_before}
use Rattle.rehearsals.specs.declared.happening.Happening.{Happening}
use Rattle.rehearsals.specs.declared.observing.Moment.TheVariants.{At}
use Rattle.rehearsals.specs.declared.observing.Observation.{Observation}
use Rattle.rehearsals.proofs.observing.note_station.Goals as goal

pub returns : goal.returns
returns c =
    let way = c.args.direction in
    let i = c.args.index in
    let s = c.args.station.now in
    let w = c.args.way.now in
    let first = c.args.first.now in
    let known = happened_before first w i in
    let old = c.args.found.now.items in
    let between = c.note_instruction.new.found.items in
    let served = c.note_served.new.found.items in
    let new = c.note_restless.new.found.items in
    let Badly : Observation → Type 0 = IsServedBadly (At way i) known s.happened in
    let Q : Observation → Type 0 = λ o. Badly o ⊎ IsStillAtIt s o in
    let instruction = subst (λ (v : NodeView). Adds (IsOfInstruction way i v s) old between) c.before-2.ensures
    c.in_ok-note_instruction.ensures in
    let messages : Adds Badly between served =
    subst (λ (hs : List Happening). Adds (IsServedBadly (At way i) hs s.happened) between served) c.happened_before-before.ensures
    (subst (λ (hs : List Happening). Adds (IsServedBadly (At way i) c.happened_before-before.result.now hs) between served) c.as_slice.ensures
    c.in_ok-note_served.ensures) in
    on_ok c.note_restless.result (Adds (IsStillAtIt s) served new) (Adds (IsAtStation way first w i s) old new)
    (λ last. adds_both (IsOfInstruction way i (before_of w i) s) Q old between new instruction
    (adds_both Badly (IsStillAtIt s) between served new messages last))
    c.note_restless.ensures
