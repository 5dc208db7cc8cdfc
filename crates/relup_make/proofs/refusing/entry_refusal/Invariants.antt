-- Nothing stands against the instructions so far.
use Rattle.std.proofs.Common.{◌≡◌, drop}
use Rattle.std.specs.List.{flat_map}
use Rattle.relup_make.specs.Refusals.{first_of, instruction_refusals}
use Rattle.relup_make.specs.Ways.{way_of}
use Rattle.relup_make.proofs.refusing.entry_refusal.Given as goal

abbrev pub invariant-loop-instruction : goal.invariant-loop-instruction
invariant-loop-instruction l =
    let refusals = instruction_refusals (way_of l.way) l.app in
    first_of (flat_map refusals l.instructions) ≡ first_of (flat_map refusals (drop l.instruction-index l.instructions))
