-- By what each event makes of the releases.
use Rattle.node_laws.proofs.PermanentKept as kept
use Rattle.node_laws.proofs.nodes_keep_a_permanent_release.Goals as goal

pub returns : goal.returns
returns c = kept.nodes_keep_a_permanent_release
