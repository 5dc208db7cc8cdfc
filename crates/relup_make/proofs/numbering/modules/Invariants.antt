-- The modules so far.
use Rattle.std.proofs.Common.{◌≡◌, take}
use Rattle.std.specs.List.{filter_map}
use Rattle.relup_make.specs.Dependencies.{module_of}
use Rattle.relup_make.proofs.numbering.modules.Given as goal

abbrev pub invariant-loop-instruction : goal.invariant-loop-instruction
invariant-loop-instruction l = l.modules.items ≡ filter_map module_of (take l.instruction-index l.instructions)
