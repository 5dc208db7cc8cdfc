-- The object code of the instructions so far.
use Rattle.std.proofs.Common.{◌≡◌, ◌++◌, take}
use Rattle.std.specs.List.{flat_map}
use Rattle.relup_make.specs.Scripts.{own_object_code}
use Rattle.relup_make.proofs.scripting.append_own.Given as goal

abbrev pub invariant-loop-instruction : goal.invariant-loop-instruction
invariant-loop-instruction l =
    l.script.items ≡ l.fn.script.items ++ flat_map own_object_code (take l.instruction-index l.instructions)
