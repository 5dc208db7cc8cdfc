-- The findings about the instructions are the findings by name.
use Rattle.otp_review.proofs.Differences.{named_of_parts}
use Rattle.otp_review.specs.OnOtp.{DiffersAt, DiffersByName}
use Rattle.upgrade_review.proofs.Noting.{on_ok}
use Rattle.upgrade_review.specs.Gathering.{Adds, FromEach}
use Rattle.otp_review.proofs.names.note_names.Goals as goal

pub returns : goal.returns
returns c =
    let way = c.args.way in
    let script = c.args.script.now in
    let old = c.args.found.now.items in
    let new = c.note_instructions.new.found.items in
    on_ok c.note_instructions.result (Adds (FromEach (DiffersAt way script) script) old new) (Adds (DiffersByName way script) old new)
    (named_of_parts way script old new) c.note_instructions.ensures
