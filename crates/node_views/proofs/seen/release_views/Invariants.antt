-- What is seen of those so far.
use Rattle.std.proofs.Common.{◌≡◌, map, take}
use Rattle.node_views.specs.Views.{release_view}
use Rattle.node_views.proofs.seen.release_views.Given as goal

abbrev pub invariant-loop-listed : goal.invariant-loop-listed
invariant-loop-listed l = l.views.items ≡ map release_view (take l.listed-index l.all)
