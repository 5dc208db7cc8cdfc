-- The vertices so far.
use Rattle.std.proofs.Common.{◌≡◌, map, take}
use Rattle.std.specs.List.{filter_map}
use Rattle.relup_make.specs.Dependencies.{module_of}
use Rattle.relup_make.specs.Numbers.{numbered}
use Rattle.relup_make.proofs.numbering.vertices.Given as goal

abbrev pub invariant-loop-instruction : goal.invariant-loop-instruction
invariant-loop-instruction l =
    l.vertices.items ≡ map (numbered (filter_map module_of l.instructions)) (take l.instruction-index l.instructions)
