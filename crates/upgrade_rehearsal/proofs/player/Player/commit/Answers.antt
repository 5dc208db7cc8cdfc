-- What was run is committed.
use Rattle.upgrade_rehearsal.proofs.Performing.{runs_by}
use Rattle.upgrade_rehearsal.proofs.player.Player.commit.Goals as goal

pub returns : goal.returns
returns c = runs_by _ _ _ _ _ c.in_ok-done.ensures c.happen.ensures
