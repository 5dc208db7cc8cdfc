-- The changes so far.
use Rattle.std.proofs.Common.{◌≡◌, take}
use Rattle.std.specs.Prelude.{option_and_then}
use Rattle.std.specs.List.{filter_map, slice_get}
use Rattle.relup_make.specs.Chosen.{change_for}
use Rattle.relup_make.proofs.changing.changes.Given as goal

abbrev pub invariant-loop-place : goal.invariant-loop-place
invariant-loop-place l =
    l.found.items ≡ filter_map (λ place. option_and_then (change_for l.kind) (slice_get l.instructions place)) (take l.place-index l.order)
