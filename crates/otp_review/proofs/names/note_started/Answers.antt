-- It is the one finding of its kind.
use Rattle.std.proofs.Common.{◌≡◌, ◌∙◌, false, sym, ap, take}
use Rattle.upgrade_review.proofs.Noting.{noted}
use Rattle.otp_review.specs.OnOtp.{StartsNobody, has_stopped}
use Rattle.upgrade_review.specs.declared.finding.Finding.TheVariants.{StartsNobodyOnOtp}
use Rattle.otp_review.proofs.names.note_started.Goals as goal

pub returns : goal.returns
returns c =
    let way = c.args.way in
    let script = c.args.script.now in
    let index = c.args.index in
    let name = c.args.name.now in
    let told = StartsNobodyOnOtp way index c.in_ok-module.«module» in
    let none : has_stopped name (take index script) ≡ false = sym c.has_stopped.ensures ∙ c.if-has_stopped.false in
    let same : told ≡ StartsNobodyOnOtp way index name = ap (StartsNobodyOnOtp way index) c.in_ok-module.ensures in
    noted _ (StartsNobody way script index name) told _ _ (none, same) (λ f w. w.1 ∙ sym same) c.note.ensures
