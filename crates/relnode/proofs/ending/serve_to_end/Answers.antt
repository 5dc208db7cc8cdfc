-- The program ends as its run ended, or for why there is none.
use Rattle.relnode.specs.Ending.{not_served, served}
use Rattle.relnode.proofs.ending.serve_to_end.Goals as goal

pub returns-in-Ok : goal.returns-in-Ok
returns-in-Ok g c = served c.in-Ok.ended c.in-Ok.ensures.ran c.end_by.ensures

pub returns-in-Err : goal.returns-in-Err
returns-in-Err g c = not_served c.in-Err.fault c.in-Err.ensures.failed c.end_without.ensures
