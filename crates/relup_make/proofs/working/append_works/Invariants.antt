-- The parts of the instructions so far.
use Rattle.std.proofs.Common.{◌≡◌, ◌++◌, [], take}
use Rattle.std.specs.List.{flat_map, slice_get}
use Rattle.std.specs.Option.{option_map_or}
use Rattle.relup_make.specs.Parts.{work_of}
use Rattle.relup_make.specs.Ways.{way_of}
use Rattle.relup_make.proofs.working.append_works.Given as goal

abbrev pub invariant-loop-index : goal.invariant-loop-index
invariant-loop-index l =
    l.parts.items ≡ l.fn.parts.items ++ flat_map (λ index. option_map_or (work_of (way_of l.way)) (slice_get l.instructions index) []) (take l.index-index l.order)
