-- The next item, and then none is left.
use Rattle.upgrade_review.proofs.Adding.{ends, goes_on}
use Rattle.upgrade_review.specs.Gathering.{IsFoundAt}
use Rattle.upgrade_review.proofs.script_findings.note_instructions.Goals as goal

pub loop-index-preserved : goal.loop-index-preserved
loop-index-preserved c =
    let script = c.args.script.now in
    let R = IsFoundAt c.args.left.now c.args.installed.now script in
    goes_on R script _ _ _ _ _ c.loop-index-test.true c.index-script-index.is c.loop-index.invariant
    c.in_ok-note_instruction.ensures

pub returns : goal.returns
returns c =
    let script = c.args.script.now in
    ends (IsFoundAt c.args.left.now c.args.installed.now script) script _ _ _ c.loop-index-test.false c.loop-index.invariant
