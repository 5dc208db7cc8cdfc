-- Calls in order are one list.
use Rattle.node_restart.proofs.Telling.{restarts_tell_one_thing as the_law}
use Rattle.node_restart.proofs.laws.restarts_tell_one_thing.Goals as goal

pub returns : goal.returns
returns c = the_law
