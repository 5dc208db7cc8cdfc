-- Only the node is seen.
use Rattle.std.proofs.Common.{refl, rules}
use Rattle.upgrade_rehearsal.proofs.way.go_nowhere.Goals as goal

pub returns : goal.returns
returns c = record { refusal = refl; begun = c.in_ok-view.ensures; stations = search rules; lingering = search rules }
