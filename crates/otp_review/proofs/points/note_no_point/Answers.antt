-- It is noted if it is so.
use Rattle.std.proofs.Common.{◌≡◌, ◌∙◌, false, sym, true≢false}
use Rattle.script_checks.specs.Checks.{has_point}
use Rattle.upgrade_review.proofs.Noting.{noted_where, nothing_noted}
use Rattle.upgrade_review.specs.declared.finding.Finding.{Finding}
use Rattle.upgrade_review.specs.declared.finding.Finding.TheVariants.{NoPointOnOtp}
use Rattle.otp_review.proofs.points.note_no_point.Goals as goal

pub returns : goal.returns
returns c =
    noted_where c.note.result (has_point c.args.script.now ≡ false) (NoPointOnOtp c.args.way) _ _
    (sym c.has_point.ensures ∙ c.if-has_point.false) c.note.ensures

pub returns-then-has_point : goal.returns-then-has_point
returns-then-has_point c =
    nothing_noted (has_point c.args.script.now ≡ false) (λ (f : Finding). f ≡ NoPointOnOtp c.args.way) c.args.found.now.items
    (λ holds. true≢false (sym c.if-has_point.true ∙ c.has_point.ensures ∙ holds))
