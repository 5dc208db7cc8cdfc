-- The next item, and then none is left.
use Rattle.std.proofs.Common.{ℕ}
use Rattle.low_instructions.specs.declared.modules.ModuleChange.{ModuleChange}
use Rattle.upgrade_review.proofs.Adding.{ends, goes_on}
use Rattle.otp_review.specs.OnOtp.{ChangesNobody}
use Rattle.upgrade_review.specs.declared.finding.Finding.{Finding}
use Rattle.otp_review.proofs.names.note_changes.Goals as goal

pub loop-change-preserved : goal.loop-change-preserved
loop-change-preserved c =
    let R : ℕ → ModuleChange → Finding → Type 0 = λ j it. ChangesNobody c.args.way c.args.script.now c.args.index it.name in
    goes_on R c.args.changes.now _ _ _ _ _ c.loop-change-test.true c.change-item.is c.loop-change.invariant
    c.in_ok-note_changed.ensures

pub returns : goal.returns
returns c =
    let R : ℕ → ModuleChange → Finding → Type 0 = λ j it. ChangesNobody c.args.way c.args.script.now c.args.index it.name in
    ends R c.args.changes.now _ _ _ c.loop-change-test.false c.loop-change.invariant
