-- Each module in turn.
use Rattle.std.proofs.Common.{◌≡◌, ℕ, List, Contains, subst}
use Rattle.upgrade_review.proofs.Adding.{adds_alike, ends, goes_on}
use Rattle.upgrade_review.specs.Gathering.{Adds}
use Rattle.rehearsals.proofs.Pids.{members_noted}
use Rattle.rehearsals.specs.OnOtp.{IsOrder}
use Rattle.rehearsals.specs.declared.observing.Observation.{Observation}
use Rattle.rehearsals.specs.declared.observing.Observation.TheVariants.{OrderOnOtp}
use Rattle.rehearsals.proofs.on_otp.note_order.Goals as goal

pub loop-name-preserved : goal.loop-name-preserved
loop-name-preserved c =
    let xs = c.as_slice-name-items.result.now in
    let R : ℕ → List ℕ → Observation → Type 0 = λ i m o. o ≡ OrderOnOtp c.args.way c.args.index m in
    goes_on R xs _ _ _ _ _ c.loop-name-test.true c.name-item.is c.loop-name.invariant
    (subst (λ (m : List ℕ). Adds (λ o. o ≡ OrderOnOtp c.args.way c.args.index m) c.loop-name.found.items c.note.new.found.items)
    c.in_ok-module.ensures c.in_ok-note.ensures)

pub returns : goal.returns
returns c =
    let xs = c.as_slice-name-items.result.now in
    let R : List ℕ → Observation → Type 0 = λ m o. o ≡ OrderOnOtp c.args.way c.args.index m in
    let P : Observation → Type 0 = λ o. (m : List ℕ) × Contains c.args.station.now.outlook.several m × R m o in
    let old = c.args.found.now.items in
    let new = c.loop-name.found.items in
    let has = c.has_several_messages.ensures.0 c.if-not-has_several_messages.false in
    let all : Adds P old new =
    subst (λ (items : List (List ℕ)). Adds (λ o. (m : List ℕ) × Contains items m × R m o) old new) c.as_slice-name-items.ensures
    (members_noted R xs old new (ends (λ i m. R m) xs _ _ _ c.loop-name-test.false c.loop-name.invariant)) in
    adds_alike P (IsOrder c.args.way c.args.index c.args.before.now c.args.station.now) old new (λ o p. (has, p)) (λ o w. w.1) all
