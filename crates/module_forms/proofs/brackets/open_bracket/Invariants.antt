-- What was found is what the tokens behind the index come to.
use Rattle.std.proofs.Common.{◌≡◌, ◌+◌, ◌≤◌, length, drop}
use Rattle.module_forms.specs.Brackets.{brackets, closing_count}
use Rattle.module_forms.proofs.brackets.open_bracket.Given as goal

abbrev pub invariant-loop-left : goal.invariant-loop-left
invariant-loop-left l = (l.found ≡ brackets (drop l.left l.tokens)) × (l.left + closing_count l.found ≤ length l.tokens)

abbrev pub decreases-loop-left : goal.decreases-loop-left
decreases-loop-left l = l.left
