-- What is seen of those so far.
use Rattle.std.proofs.Common.{◌≡◌, map, take}
use Rattle.node_views.specs.Views.{module_view}
use Rattle.node_views.proofs.seen.module_views.Given as goal

abbrev pub invariant-loop-index : goal.invariant-loop-index
invariant-loop-index l = l.views.items ≡ map module_view (take l.index l.modules.entries)
