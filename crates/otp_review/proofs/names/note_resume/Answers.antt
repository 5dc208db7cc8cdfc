-- The next item, and then none is left.
use Rattle.std.proofs.Common.{ℕ, List}
use Rattle.upgrade_review.proofs.Adding.{ends, goes_on}
use Rattle.otp_review.specs.OnOtp.{ResumesNobody}
use Rattle.upgrade_review.specs.declared.finding.Finding.{Finding}
use Rattle.otp_review.proofs.names.note_resume.Goals as goal

pub loop-name-preserved : goal.loop-name-preserved
loop-name-preserved c =
    let R : ℕ → List ℕ → Finding → Type 0 = λ j it. ResumesNobody c.args.way c.args.script.now c.args.index it in
    goes_on R c.args.modules.now _ _ _ _ _ c.loop-name-test.true c.name-item.is c.loop-name.invariant
    c.in_ok-note_resumed.ensures

pub returns : goal.returns
returns c =
    let R : ℕ → List ℕ → Finding → Type 0 = λ j it. ResumesNobody c.args.way c.args.script.now c.args.index it in
    ends R c.args.modules.now _ _ _ c.loop-name-test.false c.loop-name.invariant
