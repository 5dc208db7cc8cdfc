-- The next item, and then none is left.
use Rattle.upgrade_review.proofs.Adding.{ends, goes_on}
use Rattle.otp_review.specs.OnOtp.{DiffersAt}
use Rattle.otp_review.proofs.names.note_instructions.Goals as goal

pub loop-index-preserved : goal.loop-index-preserved
loop-index-preserved c =
    let script = c.args.script.now in
    goes_on (DiffersAt c.args.way script) script _ _ _ _ _ c.loop-index-test.true c.index-script-index.is c.loop-index.invariant
    c.in_ok-note_instruction.ensures

pub returns : goal.returns
returns c = ends (DiffersAt c.args.way c.args.script.now) c.args.script.now _ _ _ c.loop-index-test.false c.loop-index.invariant
