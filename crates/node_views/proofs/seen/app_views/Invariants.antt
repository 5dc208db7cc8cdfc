-- What is seen of those so far.
use Rattle.std.proofs.Common.{◌≡◌, map, take}
use Rattle.node_views.specs.Views.{app_view}
use Rattle.node_views.proofs.seen.app_views.Given as goal

abbrev pub invariant-loop-index : goal.invariant-loop-index
invariant-loop-index l = l.views.items ≡ map app_view (take l.index l.apps)
