-- The next item, and then none is left.
use Rattle.std.proofs.Common.{ℕ}
use Rattle.low_instructions.specs.declared.modules.Suspension.{Suspension}
use Rattle.upgrade_review.proofs.Adding.{ends, goes_on}
use Rattle.otp_review.specs.OnOtp.{IsNotResumed}
use Rattle.upgrade_review.specs.declared.finding.Finding.{Finding}
use Rattle.otp_review.proofs.names.note_suspend.Goals as goal

pub loop-suspension-preserved : goal.loop-suspension-preserved
loop-suspension-preserved c =
    let R : ℕ → Suspension → Finding → Type 0 = λ j it. IsNotResumed c.args.way c.args.script.now c.args.index it.name in
    goes_on R c.args.modules.now _ _ _ _ _ c.loop-suspension-test.true c.suspension-item.is c.loop-suspension.invariant
    c.in_ok-note_suspended.ensures

pub returns : goal.returns
returns c =
    let R : ℕ → Suspension → Finding → Type 0 = λ j it. IsNotResumed c.args.way c.args.script.now c.args.index it.name in
    ends R c.args.modules.now _ _ _ c.loop-suspension-test.false c.loop-suspension.invariant
