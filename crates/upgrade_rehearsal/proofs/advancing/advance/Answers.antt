-- The result of the event is returned.
use Rattle.upgrade_rehearsal.proofs.Performing.{performed_comes}
use Rattle.upgrade_rehearsal.proofs.advancing.advance.Goals as goal

pub returns : goal.returns
returns c = performed_comes _ _ _ _ _ c.outcome_of.ensures c.in_ok-perform.ensures.performed
