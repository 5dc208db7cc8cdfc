-- It is noted if it is so.
use Rattle.std.proofs.Common.{◌≡◌, ◌∙◌, true, sym, true≢false}
use Rattle.otp_review.specs.OnOtp.{is_second}
use Rattle.upgrade_review.proofs.Noting.{noted_where, nothing_noted}
use Rattle.upgrade_review.specs.declared.finding.Finding.{Finding}
use Rattle.upgrade_review.specs.declared.finding.Finding.TheVariants.{SecondPointOnOtp}
use Rattle.otp_review.proofs.points.note_second.Goals as goal

pub returns-then-is_second : goal.returns-then-is_second
returns-then-is_second c =
    noted_where c.note.result (is_second c.args.script.now c.args.index c.args.low.now ≡ true) (SecondPointOnOtp c.args.way c.args.index) _ _
    (sym c.is_second.ensures ∙ c.if-is_second.true) c.note.ensures

pub returns : goal.returns
returns c =
    nothing_noted (is_second c.args.script.now c.args.index c.args.low.now ≡ true) (λ (f : Finding). f ≡ SecondPointOnOtp c.args.way c.args.index)
    c.args.found.now.items (λ holds. true≢false (sym holds ∙ sym c.is_second.ensures ∙ c.if-is_second.false))
