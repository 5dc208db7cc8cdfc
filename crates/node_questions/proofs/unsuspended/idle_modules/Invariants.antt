-- Those so far.
use Rattle.std.proofs.Common.{◌≡◌, map, take}
use Rattle.std.specs.List.{filter}
use Rattle.node_questions.specs.Unsuspended.{is_nobody}
use Rattle.node_questions.proofs.unsuspended.idle_modules.Given as goal

abbrev pub invariant-loop-suspension : goal.invariant-loop-suspension
invariant-loop-suspension l = l.found.items ≡ filter (is_nobody l.apps) (map (λ m. m.name) (take l.suspension-index l.suspended))
