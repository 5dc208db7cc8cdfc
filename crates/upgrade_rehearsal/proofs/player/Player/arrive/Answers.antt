-- The message has the next number.
use Rattle.upgrade_rehearsal.proofs.Performing.{comes_by}
use Rattle.upgrade_rehearsal.proofs.player.Player.arrive.Goals as goal

pub returns : goal.returns
returns c = comes_by _ _ c.happen.new.self _ _ c.in_ok-event.ensures c.in-Some.ensures.1 c.in_ok-happen.ensures
