-- None of those so far has several.
use Rattle.std.proofs.Common.{◌≡◌, false, take}
use Rattle.std.specs.List.{list_any}
use Rattle.node_questions.specs.Outlooks.{has_several}
use Rattle.node_questions.proofs.outlook.is_several.Given as goal

abbrev pub invariant-loop-index : goal.invariant-loop-index
invariant-loop-index l = list_any (has_several l.name) (take l.index l.apps) ≡ false
