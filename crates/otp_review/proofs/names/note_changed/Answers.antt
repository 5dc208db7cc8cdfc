-- It is the one finding of its kind.
use Rattle.std.proofs.Common.{◌≡◌, ◌∙◌, false, sym, ap, take}
use Rattle.upgrade_review.proofs.Noting.{noted}
use Rattle.otp_review.specs.OnOtp.{ChangesNobody}
use Rattle.upgrade_review.specs.Suspended.{has_suspended}
use Rattle.upgrade_review.specs.declared.finding.Finding.TheVariants.{ChangesNobodyOnOtp}
use Rattle.otp_review.proofs.names.note_changed.Goals as goal

pub returns : goal.returns
returns c =
    let way = c.args.way in
    let script = c.args.script.now in
    let index = c.args.index in
    let name = c.args.name.now in
    let told = ChangesNobodyOnOtp way index c.in_ok-module.«module» in
    let none : has_suspended name (take index script) ≡ false = sym c.has_suspended.ensures ∙ c.if-has_suspended.false in
    let same : told ≡ ChangesNobodyOnOtp way index name = ap (ChangesNobodyOnOtp way index) c.in_ok-module.ensures in
    noted _ (ChangesNobody way script index name) told _ _ (none, same) (λ f w. w.1 ∙ sym same) c.note.ensures
