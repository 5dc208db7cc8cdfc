-- Nothing is noted if OTP refuses the script; else one kind after the other is.
use Rattle.std.proofs.Common.{◌∙◌, ◌⊎◌, sym, true≢false}
use Rattle.otp_review.specs.OnOtp.{HasNoPoint, IsMisplaced, IsTaken}
use Rattle.upgrade_review.proofs.Noting.{noted_besides, noted_both, nothing_noted}
use Rattle.upgrade_review.specs.Gathering.{FromEach}
use Rattle.upgrade_review.specs.declared.finding.Finding.{Finding}
use Rattle.otp_review.proofs.points.note_points.Goals as goal

pub returns : goal.returns
returns c =
    let way = c.args.way in
    let script = c.args.script.now in
    let old = c.args.found.now.items in
    let between = c.note_no_point.new.found.items in
    let new = c.note_misplaced.new.found.items in
    let Each : Finding → Type 0 = FromEach (IsMisplaced way script) script in
    noted_besides c.note_misplaced.result (IsTaken script) (λ f. HasNoPoint way script f ⊎ Each f) old new
    (c.is_taken.ensures.0 c.if-not-is_taken.false)
    (noted_both c.note_misplaced.result (HasNoPoint way script) Each old between new c.in_ok-note_no_point.ensures c.note_misplaced.ensures)

pub returns-then-not-is_taken : goal.returns-then-not-is_taken
returns-then-not-is_taken c =
    let way = c.args.way in
    let script = c.args.script.now in
    let Each : Finding → Type 0 = FromEach (IsMisplaced way script) script in
    nothing_noted (IsTaken script) (λ f. HasNoPoint way script f ⊎ Each f) c.args.found.now.items
    (λ holds. true≢false (sym (c.is_taken.ensures.1 holds) ∙ c.if-not-is_taken.true))
