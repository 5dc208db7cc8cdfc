-- What the jobs so far load.
use Rattle.std.proofs.Common.{◌≡◌, map, take}
use Rattle.std.specs.List.{flat_map}
use Rattle.relup_make.specs.Arranging.{arranged}
use Rattle.relup_make.specs.Scripts.{loaded_in}
use Rattle.relup_make.specs.Ways.{way_of}
use Rattle.relup_make.proofs.scripting.loaded.Given as goal

abbrev pub invariant-loop-arrangement : goal.invariant-loop-arrangement
invariant-loop-arrangement l =
    l.loaded.items ≡ flat_map (loaded_in (way_of l.way)) (map arranged (take l.arrangement-index l.arrangements))
