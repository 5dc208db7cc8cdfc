-- What the groups so far load.
use Rattle.std.proofs.Common.{◌≡◌, ◌++◌, take}
use Rattle.std.specs.List.{flat_map}
use Rattle.relup_make.specs.Arranging.{order_of_loads}
use Rattle.relup_make.specs.Scripts.{at, loaded_by}
use Rattle.relup_make.specs.Ways.{way_of}
use Rattle.relup_make.proofs.scripting.append_loaded_in.Given as goal

abbrev pub invariant-loop-group : goal.invariant-loop-group
invariant-loop-group l =
    l.loaded.items ≡ l.fn.loaded.items ++ flat_map (λ group. flat_map (loaded_by (way_of l.way) l.job.app) (at l.job.instructions (order_of_loads l.way.direction group))) (take l.group-index l.groups)
