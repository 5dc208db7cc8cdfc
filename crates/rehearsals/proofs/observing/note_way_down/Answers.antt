-- It is observed if there was one.
use Rattle.low_instructions.specs.declared.modules.Direction.TheVariants.{Down}
use Rattle.rehearsals.proofs.Pids.{on_some}
use Rattle.rehearsals.specs.Observing.{IsOnWay}
use Rattle.rehearsals.proofs.observing.note_way_down.Goals as goal

pub returns-in-Some : goal.returns-in-Some
returns-in-Some c = on_some _ (IsOnWay Down c.args.first.now) c.args.down.now c.in-Some.way _ _ c.in-Some.is c.note_way.ensures
