-- The next one, and then none is left.
use Rattle.otp_review.specs.OnOtp.{FailsAt}
use Rattle.upgrade_review.proofs.Adding.{ends, goes_on}
use Rattle.otp_review.proofs.supervisors.note_supervisors.Goals as goal

pub loop-index-preserved : goal.loop-index-preserved
loop-index-preserved c =
    let script = c.args.script.now in
    goes_on (FailsAt c.args.way c.args.left.now script) script _ _ _ _ _ c.loop-index-test.true c.index-script-index.is c.loop-index.invariant
    c.in_ok-note_instruction.ensures

pub returns : goal.returns
returns c =
    ends (FailsAt c.args.way c.args.left.now c.args.script.now) c.args.script.now _ _ _ c.loop-index-test.false c.loop-index.invariant
