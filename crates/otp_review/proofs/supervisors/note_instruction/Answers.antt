-- Supervisors are looked at if they are asked.
use Rattle.std.proofs.Common.{◌≡◌, ◌∙◌, true, sym, true≢false}
use Rattle.otp_review.specs.OnOtp.{IsSuspendedIn, asks_supervisors}
use Rattle.upgrade_review.proofs.Noting.{noted_besides, nothing_noted}
use Rattle.otp_review.proofs.supervisors.note_instruction.Goals as goal

pub returns-then-asks_supervisors : goal.returns-then-asks_supervisors
returns-then-asks_supervisors c =
    noted_besides c.note_asked.result (asks_supervisors c.args.low.now ≡ true)
    (IsSuspendedIn c.args.way c.args.left.now c.args.script.now c.args.index) c.args.found.now.items c.note_asked.new.found.items
    (sym c.asks_supervisors.ensures ∙ c.if-asks_supervisors.true) c.note_asked.ensures

pub returns : goal.returns
returns c =
    nothing_noted (asks_supervisors c.args.low.now ≡ true) (IsSuspendedIn c.args.way c.args.left.now c.args.script.now c.args.index)
    c.args.found.now.items (λ holds. true≢false (sym holds ∙ sym c.asks_supervisors.ensures ∙ c.if-asks_supervisors.false))
