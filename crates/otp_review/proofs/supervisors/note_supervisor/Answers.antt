-- It is the callback module's, if there is one.
use Rattle.std.proofs.Common.{OnOk, Option, subst, sym}
use Rattle.otp_files.specs.declared.app.StartModule.{StartModule}
use Rattle.otp_review.specs.OnOtp.{IsSuspendedStart}
use Rattle.upgrade_review.specs.Gathering.{Adds}
use Rattle.otp_review.proofs.supervisors.note_supervisor.Goals as goal

pub returns-in-Some : goal.returns-in-Some
returns-in-Some c =
    subst (λ (start : Option StartModule). OnOk c.note_suspended.result
    (Adds (IsSuspendedStart c.args.way c.args.script.now c.args.index start) c.args.found.now.items c.note_suspended.new.found.items))
    (sym c.in-Some.is) c.note_suspended.ensures
