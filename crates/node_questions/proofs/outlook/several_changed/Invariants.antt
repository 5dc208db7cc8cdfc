-- Those so far.
use Rattle.std.proofs.Common.{◌≡◌, map, take}
use Rattle.std.specs.List.{filter}
use Rattle.node_questions.specs.Outlooks.{is_several}
use Rattle.node_questions.proofs.outlook.several_changed.Given as goal

abbrev pub invariant-loop-change : goal.invariant-loop-change
invariant-loop-change l = l.found.items ≡ filter (is_several l.apps) (map (λ change. change.name) (take l.change-index l.changes))
