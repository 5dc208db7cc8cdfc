-- The next item, and then none is left.
use Rattle.upgrade_review.proofs.Adding.{ends, goes_on}
use Rattle.upgrade_review.specs.Calls.{AppliesNobodyBy}
use Rattle.upgrade_review.proofs.calls.note_applies.Goals as goal

pub loop-index-preserved : goal.loop-index-preserved
loop-index-preserved c =
    let p = c.args.passage in
    let R = AppliesNobodyBy p.way p.left.now p.installed.now p.script.now in
    goes_on R p.script.now _ _ _ _ _ c.loop-index-test.true c.index-script-index.is c.loop-index.invariant
    c.in_ok-note_instruction.ensures

pub returns : goal.returns
returns c =
    let p = c.args.passage in
    ends (AppliesNobodyBy p.way p.left.now p.installed.now p.script.now) p.script.now _ _ _ c.loop-index-test.false c.loop-index.invariant
