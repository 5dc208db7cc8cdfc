-- The next item, and then none is left.
use Rattle.std.proofs.Common.{ℕ, List, subst}
use Rattle.upgrade_review.proofs.Adding.{ends, goes_on}
use Rattle.upgrade_review.specs.Calls.{IsUnansweredCall}
use Rattle.upgrade_review.specs.Gathering.{Adds, FromEach}
use Rattle.upgrade_review.specs.declared.finding.Finding.{Finding}
use Rattle.upgrade_review.specs.declared.interface.Call.{Call}
use Rattle.upgrade_review.proofs.calls.note_caller.Goals as goal

pub loop-call-preserved : goal.loop-call-preserved
loop-call-preserved c =
    let p = c.args.passage in
    let caller = c.args.caller.now in
    let R : ℕ → Call → Finding → Type 0 = λ i call. IsUnansweredCall p.way p.left.now p.installed.now p.script.now caller.application
    caller.name call in
    goes_on R c.as_slice-calls.result.now _ _ _ _ _ c.loop-call-test.true c.call-item.is c.loop-call.invariant c.in_ok-note_call.ensures

pub returns : goal.returns
returns c =
    let p = c.args.passage in
    let caller = c.args.caller.now in
    let R : ℕ → Call → Finding → Type 0 = λ i call. IsUnansweredCall p.way p.left.now p.installed.now p.script.now caller.application
    caller.name call in
    subst (λ (calls : List Call). Adds (FromEach R calls) c.args.found.now.items c.loop-call.found.items) c.as_slice-calls.ensures
    (ends R c.as_slice-calls.result.now _ _ _ c.loop-call-test.false c.loop-call.invariant)
