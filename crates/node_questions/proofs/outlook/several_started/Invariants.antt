-- Those so far.
use Rattle.std.proofs.Common.{◌≡◌, take}
use Rattle.std.specs.List.{filter}
use Rattle.node_questions.specs.Outlooks.{is_several}
use Rattle.node_questions.proofs.outlook.several_started.Given as goal

abbrev pub invariant-loop-name : goal.invariant-loop-name
invariant-loop-name l = l.found.items ≡ filter (is_several l.apps) (take l.name-index l.modules)
