-- It is noted if it is so.
use Rattle.std.proofs.Common.{◌≡◌, ◌∙◌, true, sym, ap, take, true≢false}
use Rattle.otp_review.specs.OnOtp.{IsSuspended}
use Rattle.upgrade_review.proofs.Noting.{noted, nothing_noted}
use Rattle.upgrade_review.specs.Suspended.{has_suspended}
use Rattle.upgrade_review.specs.declared.finding.Finding.{Finding}
use Rattle.upgrade_review.specs.declared.finding.Finding.TheVariants.{SuspendedSupervisorOnOtp}
use Rattle.otp_review.proofs.supervisors.note_suspended.Goals as goal

pub returns : goal.returns
returns c =
    let way = c.args.way in
    let script = c.args.script.now in
    let index = c.args.index in
    let name = c.args.name.now in
    let told = SuspendedSupervisorOnOtp way index c.in_ok-module.«module» in
    let kept : has_suspended name (take index script) ≡ true = sym c.has_suspended.ensures ∙ c.if-not-has_suspended.false in
    let same : told ≡ SuspendedSupervisorOnOtp way index name = ap (SuspendedSupervisorOnOtp way index) c.in_ok-module.ensures in
    noted _ (IsSuspended way script index name) told _ _ (kept, same) (λ f w. w.1 ∙ sym same) c.note.ensures

pub returns-then-not-has_suspended : goal.returns-then-not-has_suspended
returns-then-not-has_suspended c =
    let way = c.args.way in
    let script = c.args.script.now in
    let index = c.args.index in
    let name = c.args.name.now in
    nothing_noted (has_suspended name (take index script) ≡ true) (λ (f : Finding). f ≡ SuspendedSupervisorOnOtp way index name)
    c.args.found.now.items (λ holds. true≢false (sym holds ∙ sym c.has_suspended.ensures ∙ c.if-not-has_suspended.true))
