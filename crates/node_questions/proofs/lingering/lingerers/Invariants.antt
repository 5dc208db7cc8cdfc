-- Those of the modules so far.
use Rattle.std.proofs.Common.{◌≡◌, take}
use Rattle.std.specs.List.{flat_map}
use Rattle.node_questions.specs.Lingering.{lingerers_of}
use Rattle.node_questions.proofs.lingering.lingerers.Given as goal

abbrev pub invariant-loop-index : goal.invariant-loop-index
invariant-loop-index l = l.found.items ≡ flat_map (lingerers_of l.processes) (take l.index l.modules.entries)
