-- The code that becomes old is the code that was current, and is purged later as the change says.
use Rattle.unpurged_code.proofs.Aging.{loads_note, removes_note}
use Rattle.unpurged_code.proofs.laws.changes_note.Goals as goal

pub returns : goal.returns
returns c = record { loads = loads_note; removes = removes_note }
