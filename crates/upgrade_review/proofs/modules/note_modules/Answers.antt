-- The next item, and then none is left.
use Rattle.std.proofs.Common.{ℕ, List, subst}
use Rattle.erl_ir.specs.Module.{Forms}
use Rattle.upgrade_review.proofs.Adding.{ends, goes_on}
use Rattle.upgrade_review.specs.Gathering.{Adds, FromEach, IsNotLoaded}
use Rattle.upgrade_review.specs.declared.finding.Finding.{Finding}
use Rattle.upgrade_review.proofs.modules.note_modules.Goals as goal

pub loop-code-preserved : goal.loop-code-preserved
loop-code-preserved c =
    let app = c.args.files.now.spec.name in
    let codes = c.as_slice-codes.result.now in
    let R : ℕ → Forms → Finding → Type 0 = λ i code. IsNotLoaded c.args.left.now c.args.script.now app code in
    goes_on R codes _ _ _ _ _ c.loop-code-test.true c.code-item.is c.loop-code.invariant c.in_ok-note_module.ensures

pub returns : goal.returns
returns c =
    let app = c.args.files.now.spec.name in
    let codes = c.as_slice-codes.result.now in
    let R : ℕ → Forms → Finding → Type 0 = λ i code. IsNotLoaded c.args.left.now c.args.script.now app code in
    subst (λ (items : List Forms). Adds (FromEach R items) c.args.found.now.items c.loop-code.found.items)
    c.as_slice-codes.ensures
    (ends R codes _ _ _ c.loop-code-test.false c.loop-code.invariant)
