-- What is seen of those so far.
use Rattle.std.proofs.Common.{◌≡◌, map, take}
use Rattle.node_views.proofs.Taken.{entry_view}
use Rattle.node_views.proofs.seen.process_views.Given as goal

abbrev pub invariant-loop-pid : goal.invariant-loop-pid
invariant-loop-pid l = l.views.items ≡ map entry_view (take l.pid l.processes.slots)
