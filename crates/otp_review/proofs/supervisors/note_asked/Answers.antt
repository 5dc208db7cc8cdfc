-- The next one, and then none is left.
use Rattle.std.proofs.Common.{ℕ, List, subst}
use Rattle.release_table.specs.declared.table.AppFiles.{AppFiles}
use Rattle.otp_review.specs.OnOtp.{IsSuspendedStart}
use Rattle.upgrade_review.proofs.Adding.{ends, goes_on}
use Rattle.upgrade_review.specs.Gathering.{Adds, FromEach}
use Rattle.upgrade_review.specs.declared.finding.Finding.{Finding}
use Rattle.otp_review.proofs.supervisors.note_asked.Goals as goal

pub loop-files-preserved : goal.loop-files-preserved
loop-files-preserved c =
    let R : ℕ → AppFiles → Finding → Type 0 = λ j files. IsSuspendedStart c.args.way c.args.script.now c.args.index files.spec.start in
    goes_on R c.as_slice-apps.result.now _ _ _ _ _ c.loop-files-test.true c.files-item.is c.loop-files.invariant
    c.in_ok-note_supervisor.ensures

pub returns : goal.returns
returns c =
    let R : ℕ → AppFiles → Finding → Type 0 = λ j files. IsSuspendedStart c.args.way c.args.script.now c.args.index files.spec.start in
    subst (λ (apps : List AppFiles). Adds (FromEach R apps) c.args.found.now.items c.loop-files.found.items) c.as_slice-apps.ensures
    (ends R c.as_slice-apps.result.now _ _ _ c.loop-files-test.false c.loop-files.invariant)
