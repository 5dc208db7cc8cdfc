-- The strings that were read stand before those that are left.
use Rattle.std.proofs.Common.{◌≡◌, ◌∷◌, ◌++◌, length}
use Rattle.erl_ast.specs.Terminal.{terminals}
use Rattle.erl_expressions.specs.Leaves.{strings_ahead, after_strings}
use Rattle.erl_expressions.specs.Refusing.{Leaves}
use Rattle.erl_expressions.proofs.leaves.strings_ahead.Given as goal

abbrev pub invariant-loop-text : goal.invariant-loop-text
invariant-loop-text l =
    (l.strings.items ++ strings_ahead (terminals l.rest) ≡ l.fn.first ∷ strings_ahead (terminals l.fn.tokens)) ×
    (after_strings (terminals l.rest) ≡ after_strings (terminals l.fn.tokens)) × Leaves l.fn.tokens l.rest

abbrev pub decreases-loop-text : goal.decreases-loop-text
decreases-loop-text l = length l.rest
