-- What was stepped over has no dot, and the token before is no later.
use Rattle.std.proofs.Common.{◌≤◌, length}
use Rattle.erl_expressions.specs.Refusing.{Leaves}
use Rattle.module_forms.proofs.attributes.no_term.Given as goal

abbrev pub invariant-loop-turn : goal.invariant-loop-turn
invariant-loop-turn l = Leaves l.tokens l.left × (length l.left ≤ length l.before) × (length l.before ≤ length l.tokens)
