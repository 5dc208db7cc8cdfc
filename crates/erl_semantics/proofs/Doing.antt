-- What operators and functions that are built in do, by how many terms there are.
use Rattle.std.specs.Prelude.{◌≡◌, refl, None, Some}
use Rattle.std.proofs.Common.{ap, sym}
use Rattle.erl_term.specs.Accessors.{two_of}
use Rattle.erl_term.specs.Tree.{Tree, Trees, none, more}
use Rattle.erl_ir.specs.declared.operation.Operator.TheVariants as operator
use Rattle.erl_semantics.specs.Operators.{receiver_of, sent, sends}
use Rattle.erl_semantics.proofs.Options.{some_none, some_injective}

pub sends_two : (ts : Trees) (x y : Tree) → two_of ts ≡ Some (x, y) → sends operator.Send ts ≡ sent (receiver_of x) y
sends_two none x y e = absurd (some_none (sym e))
sends_two (more t none) x y e = absurd (some_none (sym e))
sends_two (more t (more u none)) x y e = ap (λ p. sent (receiver_of p.0) p.1) (some_injective e)
sends_two (more t (more u (more v ts))) x y e = absurd (some_none (sym e))

pub sends_else : (ts : Trees) → two_of ts ≡ None → sends operator.Send ts ≡ None
sends_else none no_two = refl
sends_else (more t none) no_two = refl
sends_else (more t (more u none)) no_two = absurd (some_none no_two)
sends_else (more t (more u (more v ts))) no_two = refl
