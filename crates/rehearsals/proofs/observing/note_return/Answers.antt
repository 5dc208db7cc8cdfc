-- What was seen is noted.
use Rattle.rehearsals.proofs.Pids.{on_return}
use Rattle.rehearsals.specs.declared.way.Returned.TheVariants.{Failed, Behind}
use Rattle.rehearsals.proofs.observing.note_return.Goals as goal

pub returns-in-Failed : goal.returns-in-Failed
returns-in-Failed c = on_return _ c.args.before.now Failed c.args.returned.now _ _ c.in-Failed.is c.note.ensures

pub returns-in-Behind : goal.returns-in-Behind
returns-in-Behind c =
    on_return _ c.args.before.now (Behind c.in-Behind.after) c.args.returned.now _ _ c.in-Behind.is c.note_returned.ensures
