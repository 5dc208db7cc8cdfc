-- None of those so far has it.
use Rattle.std.proofs.Common.{◌≡◌, false, take}
use Rattle.std.specs.List.{list_any}
use Rattle.node_questions.specs.Unsuspended.{is_known_by}
use Rattle.node_questions.proofs.unsuspended.is_known.Given as goal

abbrev pub invariant-loop-index : goal.invariant-loop-index
invariant-loop-index l = list_any (is_known_by l.name) (take l.index l.apps) ≡ false
