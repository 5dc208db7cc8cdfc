-- Those of the applications so far.
use Rattle.std.proofs.Common.{◌≡◌, take}
use Rattle.std.specs.List.{flat_map}
use Rattle.node_questions.specs.Outlooks.{temporary_in}
use Rattle.node_questions.proofs.outlook.temporary_among.Given as goal

abbrev pub invariant-loop-index : goal.invariant-loop-index
invariant-loop-index l = l.found.items ≡ flat_map (temporary_in l.modules) (take l.index l.apps)
