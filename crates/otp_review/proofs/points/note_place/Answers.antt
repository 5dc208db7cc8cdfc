-- One kind after the other.
use Rattle.otp_review.specs.OnOtp.{IsEarly, IsSecondPoint}
use Rattle.upgrade_review.proofs.Noting.{noted_both}
use Rattle.otp_review.proofs.points.note_place.Goals as goal

pub returns : goal.returns
returns c =
    let way = c.args.way in
    let script = c.args.script.now in
    let low = c.args.low.now in
    noted_both c.note_early.result (IsSecondPoint way script c.args.index low) (IsEarly way script c.args.index low) c.args.found.now.items
    c.note_second.new.found.items c.note_early.new.found.items c.in_ok-note_second.ensures c.note_early.ensures
