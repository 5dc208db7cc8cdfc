-- What is performed continues it.
use Rattle.upgrade_rehearsal.proofs.Performing.{performed_on}
use Rattle.upgrade_rehearsal.proofs.player.Player.happen.Goals as goal

pub returns : goal.returns
returns c = performed_on _ _ _ _ c.in_ok-perform.ensures.performed
