-- The parts of the groups so far.
use Rattle.std.proofs.Common.{◌≡◌, ◌++◌, take}
use Rattle.std.specs.List.{flat_map}
use Rattle.relup_make.specs.Parts.{parts_of}
use Rattle.relup_make.specs.Scripts.{placed}
use Rattle.relup_make.specs.Ways.{way_of}
use Rattle.relup_make.proofs.scripting.append_parts_of.Given as goal

abbrev pub invariant-loop-group : goal.invariant-loop-group
invariant-loop-group l =
    l.script.items ≡ l.fn.script.items ++ flat_map (λ group. parts_of l.way.direction (way_of l.way) (placed l.job.instructions group)) (take l.group-index l.groups)
