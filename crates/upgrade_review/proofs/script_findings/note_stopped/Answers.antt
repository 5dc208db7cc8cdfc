-- There is one.
use Rattle.std.proofs.Common.{ap}
use Rattle.std.specs.Option.{option_copied}
use Rattle.upgrade_review.proofs.Noting.{noted_of}
use Rattle.upgrade_review.specs.Gathering.{IsStop}
use Rattle.upgrade_review.proofs.script_findings.note_stopped.Goals as goal

pub returns-in-Some : goal.returns-in-Some
returns-in-Some c =
    let app = option_copied c.args.app in
    noted_of _ (IsStop c.args.script.now c.args.index) app _ _ _ (ap option_copied c.in-Some.is) c.note_stop.ensures
