-- Those of the children so far.
use Rattle.std.proofs.Common.{◌≡◌, ◌++◌, take}
use Rattle.std.specs.List.{flat_map}
use Rattle.node_questions.specs.Outlooks.{temporary_by}
use Rattle.node_questions.proofs.outlook.push_temporary_in.Given as goal

abbrev pub invariant-loop-child : goal.invariant-loop-child
invariant-loop-child l = l.found.items ≡ l.fn.found.items ++ flat_map (temporary_by l.modules) (take l.child-index l.children)
