-- The next item, and then none is left.
use Rattle.std.proofs.Common.{ℕ}
use Rattle.upgrade_review.proofs.Adding.{ends, goes_on}
use Rattle.upgrade_review.specs.Calls.{IsUnansweredOf}
use Rattle.upgrade_review.specs.declared.finding.Finding.{Finding}
use Rattle.upgrade_review.specs.declared.interface.Interface.{Interface}
use Rattle.upgrade_review.proofs.calls.note_callers.Goals as goal

pub loop-caller-preserved : goal.loop-caller-preserved
loop-caller-preserved c =
    let p = c.args.passage in
    let R : ℕ → Interface → Finding → Type 0 = λ i caller. IsUnansweredOf p.way p.left.now p.installed.now p.script.now caller in
    goes_on R c.args.callers.now _ _ _ _ _ c.loop-caller-test.true c.caller-item.is c.loop-caller.invariant
    c.in_ok-note_caller.ensures

pub returns : goal.returns
returns c =
    let p = c.args.passage in
    let R : ℕ → Interface → Finding → Type 0 = λ i caller. IsUnansweredOf p.way p.left.now p.installed.now p.script.now caller in
    ends R c.args.callers.now _ _ _ c.loop-caller-test.false c.loop-caller.invariant
