-- The result of the event begins the install, or is why it is refused.
use Rattle.upgrade_rehearsal.proofs.Ways.{begins_by, refused_by}
use Rattle.upgrade_rehearsal.proofs.way.install.Goals as goal

pub returns-in-Ok : goal.returns-in-Ok
returns-in-Ok c = begins_by _ _ _ _ _ c.in-Ok.field-0 c.in_ok-vsn.ensures c.in-Ok.is c.in_ok-perform.ensures.performed

pub returns : goal.returns
returns c = refused_by _ _ _ _ _ c.in-Err.why c.in_ok-vsn.ensures c.in-Err.is c.in_ok-perform.ensures.performed
