-- Both ways were run, and the view is returned if the way down was finished.
use Rattle.upgrade_rehearsal.proofs.Whole.{returns_failed, returns_seen}
use Rattle.upgrade_rehearsal.proofs.rehearsing.return_quietly.Goals as goal

pub returns-then-is_down : goal.returns-then-is_down
returns-then-is_down g c =
    returns_seen _ _ _ _ _ _ _ _ c.in_ok-down.ensures.ways c.is_down.ensures c.if-is_down.true c.in_ok-view.ensures

pub returns : goal.returns
returns g c = returns_failed _ _ _ _ _ _ _ c.in_ok-down.ensures.ways c.is_down.ensures c.if-is_down.false
