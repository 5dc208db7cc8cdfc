-- The next item, and then none is left.
use Rattle.upgrade_review.proofs.Adding.{ends, goes_on}
use Rattle.upgrade_review.specs.Gathering.{IsNotUndoneAt}
use Rattle.upgrade_review.proofs.script_findings.note_not_undone.Goals as goal

pub loop-index-preserved : goal.loop-index-preserved
loop-index-preserved c =
    let R = IsNotUndoneAt c.args.down.now in
    goes_on R c.args.up.now _ _ _ _ _ c.loop-index-test.true c.index-up-index.is c.loop-index.invariant
    c.in_ok-note_instruction_up.ensures

pub returns : goal.returns
returns c = ends (IsNotUndoneAt c.args.down.now) c.args.up.now _ _ _ c.loop-index-test.false c.loop-index.invariant
