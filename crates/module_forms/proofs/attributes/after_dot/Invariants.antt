-- The next dot of what is left is the next of all.
use Rattle.std.proofs.Common.{◌≡◌, ◌+◌, length}
use Rattle.erl_ast.specs.Forms.{after_dot}
use Rattle.erl_ast.specs.Terminal.{terminals}
use Rattle.erl_expressions.specs.Refusing.{Leaves}
use Rattle.module_forms.proofs.attributes.after_dot.Given as goal

abbrev pub invariant-loop-turn : goal.invariant-loop-turn
invariant-loop-turn l =
    (after_dot (terminals l.tokens) ≡ after_dot (terminals l.left)) × (length l.left + l._turn ≡ length l.tokens) ×
    Leaves l.tokens l.left
