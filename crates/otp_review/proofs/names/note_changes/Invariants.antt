-- What is noted so far.
use Rattle.std.proofs.Common.{ℕ}
use Rattle.low_instructions.specs.declared.modules.ModuleChange.{ModuleChange}
use Rattle.upgrade_review.proofs.Adding.{UpTo}
use Rattle.upgrade_review.specs.Gathering.{Adds}
use Rattle.otp_review.specs.OnOtp.{ChangesNobody}
use Rattle.otp_review.proofs.names.note_changes.Given as goal

abbrev pub invariant-loop-change : goal.invariant-loop-change
invariant-loop-change l =
    let R = λ (j : ℕ) (it : ModuleChange). ChangesNobody l.way l.script l.index it.name in
    Adds (UpTo R l.changes l.change-index) l.fn.found.items l.found.items
