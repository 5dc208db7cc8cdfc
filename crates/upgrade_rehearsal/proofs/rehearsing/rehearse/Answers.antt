-- The record is the rehearsal; or the release has booted, and the rehearsal was halted then.
use Rattle.upgrade_rehearsal.proofs.Whole.{halts_on, rehearsed_by}
use Rattle.upgrade_rehearsal.proofs.rehearsing.rehearse.Goals as goal

pub returns-in-Ok : goal.returns-in-Ok
returns-in-Ok g c = rehearsed_by _ _ _ _ c.in_ok-player.player _ c.in_ok-player.ensures.node c.in_ok-player.ensures.arrivals c.as_str.ensures.chars c.in-Ok.ensures

pub returns-in-Err : goal.returns-in-Err
returns-in-Err g c = halts_on _ _ c.in-Err.halt c.in_ok-player.ensures.node
