-- The return is tried if the way down was finished.
use Rattle.upgrade_rehearsal.proofs.Whole.{is_tried, is_untried}
use Rattle.upgrade_rehearsal.proofs.rehearsing.return_if.Goals as goal

pub returns-then-was_down : goal.returns-then-was_down
returns-then-was_down g c = is_tried c.return_quietly.result _ _ _ _ c.if-was_down.true c.return_quietly.ensures

pub returns-else-was_down : goal.returns-else-was_down
returns-else-was_down g c = is_untried _ _ _ _ c.if-was_down.false
