-- The suspensions so far.
use Rattle.std.proofs.Common.{◌≡◌, take}
use Rattle.std.specs.Prelude.{option_and_then}
use Rattle.std.specs.List.{filter_map, slice_get}
use Rattle.relup_make.specs.Parts.{suspension_of}
use Rattle.relup_make.proofs.suspending.suspensions.Given as goal

abbrev pub invariant-loop-index : goal.invariant-loop-index
invariant-loop-index l =
    l.found.items ≡ filter_map (λ index. option_and_then suspension_of (slice_get l.instructions index)) (take l.index-index l.order)
