-- The next item, and then none is left.
use Rattle.std.proofs.Common.{ℕ}
use Rattle.low_instructions.specs.declared.modules.ModuleChange.{ModuleChange}
use Rattle.upgrade_review.proofs.Adding.{ends, goes_on}
use Rattle.upgrade_review.specs.Gathering.{IsUnchanged}
use Rattle.upgrade_review.specs.declared.finding.Finding.{Finding}
use Rattle.upgrade_review.proofs.script_findings.note_changes.Goals as goal

pub loop-change-preserved : goal.loop-change-preserved
loop-change-preserved c =
    let left = c.args.left.now in
    let installed = c.args.installed.now in
    let script = c.args.script.now in
    let R : ℕ → ModuleChange → Finding → Type 0 = λ j it. IsUnchanged left installed script c.args.index it.name in
    goes_on R c.args.changes.now _ _ _ _ _ c.loop-change-test.true c.change-item.is c.loop-change.invariant
    c.in_ok-note_change.ensures

pub returns : goal.returns
returns c =
    let left = c.args.left.now in
    let installed = c.args.installed.now in
    let script = c.args.script.now in
    let R : ℕ → ModuleChange → Finding → Type 0 = λ j it. IsUnchanged left installed script c.args.index it.name in
    ends R c.args.changes.now _ _ _ c.loop-change-test.false c.loop-change.invariant
