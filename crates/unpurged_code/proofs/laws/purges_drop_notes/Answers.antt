-- Of a module that is purged nothing is purged later, and each other is purged later as before.
use Rattle.code_loading.proofs.Emptied.{other_noted, own_noted}
use Rattle.unpurged_code.proofs.laws.purges_drop_notes.Goals as goal

pub returns : goal.returns
returns c = record { own = own_noted; others = other_noted }
