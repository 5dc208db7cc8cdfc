-- What was stepped over has no dot.
use Rattle.erl_expressions.specs.Refusing.{Leaves}
use Rattle.erl_expressions.proofs.refusal.Refusal.call_too_deep.Given as goal

abbrev pub invariant-loop-turn : goal.invariant-loop-turn
invariant-loop-turn l = Leaves l.tokens l.left
