-- It is noted if it is so.
use Rattle.std.proofs.Common.{◌≡◌, ◌∙◌, true, sym, true≢false}
use Rattle.otp_review.specs.OnOtp.{is_early}
use Rattle.upgrade_review.proofs.Noting.{noted_where, nothing_noted}
use Rattle.upgrade_review.specs.declared.finding.Finding.{Finding}
use Rattle.upgrade_review.specs.declared.finding.Finding.TheVariants.{EarlyOnOtp}
use Rattle.otp_review.proofs.points.note_early.Goals as goal

pub returns-then-is_early : goal.returns-then-is_early
returns-then-is_early c =
    noted_where c.note.result (is_early c.args.script.now c.args.index c.args.low.now ≡ true) (EarlyOnOtp c.args.way c.args.index) _ _
    (sym c.is_early.ensures ∙ c.if-is_early.true) c.note.ensures

pub returns : goal.returns
returns c =
    nothing_noted (is_early c.args.script.now c.args.index c.args.low.now ≡ true) (λ (f : Finding). f ≡ EarlyOnOtp c.args.way c.args.index)
    c.args.found.now.items (λ holds. true≢false (sym holds ∙ sym c.is_early.ensures ∙ c.if-is_early.false))
