-- The program ends as its run ended, or for what kept the node from starting.
use Rattle.std.proofs.Common.{refl}
use Rattle.relnode.specs.Ending.{no_console, console_ran}
use Rattle.relnode.proofs.ending.console_to_end.Goals as goal

pub returns-in-Ok : goal.returns-in-Ok
returns-in-Ok g c = console_ran c.in-Ok.ended c.in-Ok.ensures.ran c.end_by.ensures

pub returns-in-Err : goal.returns-in-Err
returns-in-Err g c = no_console c.in-Err.fault c.in-Err.ensures.failed c.in-Err.ensures.unread.0 c.in-Err.ensures.unread.1 refl
