-- What is noted so far.
use Rattle.std.proofs.Common.{ℕ}
use Rattle.release_table.specs.declared.table.AppFiles.{AppFiles}
use Rattle.otp_review.specs.OnOtp.{IsSuspendedStart}
use Rattle.upgrade_review.proofs.Adding.{UpTo}
use Rattle.upgrade_review.specs.Gathering.{Adds}
use Rattle.otp_review.proofs.supervisors.note_asked.Given as goal

abbrev pub invariant-loop-files : goal.invariant-loop-files
invariant-loop-files l =
    let R = λ (j : ℕ) (files : AppFiles). IsSuspendedStart l.way l.script l.index files.spec.start in
    Adds (UpTo R l.apps l.files-index) l.fn.found.items l.found.items
