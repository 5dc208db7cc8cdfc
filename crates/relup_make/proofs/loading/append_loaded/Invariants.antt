-- What the instructions so far load.
use Rattle.std.proofs.Common.{◌≡◌, ◌++◌, [], take}
use Rattle.std.specs.List.{flat_map, slice_get}
use Rattle.std.specs.Option.{option_map_or}
use Rattle.relup_make.specs.Scripts.{loaded_by}
use Rattle.relup_make.specs.Ways.{way_of}
use Rattle.relup_make.proofs.loading.append_loaded.Given as goal

abbrev pub invariant-loop-index : goal.invariant-loop-index
invariant-loop-index l =
    l.loaded.items ≡ l.fn.loaded.items ++ flat_map (λ index. option_map_or (loaded_by (way_of l.way) l.app) (slice_get l.instructions index) []) (take l.index-index l.order)
