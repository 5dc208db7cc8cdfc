-- The parts of the jobs so far.
use Rattle.std.proofs.Common.{◌≡◌, ◌++◌, map, take}
use Rattle.std.specs.List.{flat_map}
use Rattle.relup_make.specs.Arranging.{arranged, parts_in_order}
use Rattle.relup_make.specs.Ways.{way_of}
use Rattle.relup_make.proofs.scripting.append_all_parts.Given as goal

abbrev pub invariant-loop-arrangement : goal.invariant-loop-arrangement
invariant-loop-arrangement l =
    l.script.items ≡ l.fn.script.items ++ flat_map (parts_in_order (way_of l.way)) (map arranged (take l.arrangement-index l.arrangements))
