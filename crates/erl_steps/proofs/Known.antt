-- What an operator makes of two values at once.
use Rattle.std.specs.Prelude.{◌≡◌, Option, None, Some, refl}
use Rattle.std.proofs.Common.{ap, sym, ◌∙◌}
use Rattle.erl_term.specs.Tree.{Tree, Trees}
use Rattle.erl_ir.specs.declared.operation.Operator.{Operator}
use Rattle.erl_ir.specs.declared.operation.Operator.TheVariants as operator
use Rattle.erl_ir.specs.declared.operation.Operation.TheVariants as operation
use Rattle.erl_semantics.specs.State.{Receiver, Result, value, exit}
use Rattle.erl_semantics.specs.Operators.{of_two, receiver_of, sends, sent, sent_to}
use Rattle.erl_steps.specs.Machine.{pair_of, value_alone, worked_out}

sent_is_not_alone : (r : Option Receiver) (t : Tree) → value_alone (sent r t) (sent_to r t) ≡ None
sent_is_not_alone None t = refl
sent_is_not_alone (Some receiver) t = refl

-- a send is left to a step of its own
pub send_waits : (p : Option (Tree × Tree)) → worked_out (operation.Operator operator.Send) p ≡ None
send_waits None = refl
send_waits (Some p) = sent_is_not_alone (receiver_of p.0) p.1

-- the other operators do nothing

not_sent : (o : Operator) (ts : Trees) → (o ≡ operator.Send → ⊥) → sends o ts ≡ None
not_sent operator.Negate ts other = refl
not_sent operator.Not ts other = refl
not_sent operator.Multiply ts other = refl
not_sent operator.Divide ts other = refl
not_sent operator.Remainder ts other = refl
not_sent operator.And ts other = refl
not_sent operator.Add ts other = refl
not_sent operator.Subtract ts other = refl
not_sent operator.Or ts other = refl
not_sent operator.Append ts other = refl
not_sent operator.Equal ts other = refl
not_sent operator.NotEqual ts other = refl
not_sent operator.ExactlyEqual ts other = refl
not_sent operator.ExactlyNotEqual ts other = refl
not_sent operator.Less ts other = refl
not_sent operator.Greater ts other = refl
not_sent operator.AtMost ts other = refl
not_sent operator.AtLeast ts other = refl
not_sent operator.Send ts other = absurd (other refl)

works_out : (o : Operator) (x y : Tree) (r : Result) → (o ≡ operator.Send → ⊥) → r ≡ of_two o x y →
    worked_out (operation.Operator o) (Some (x, y)) ≡ value_alone None r
works_out o x y r other gives =
    ap (λ act. value_alone act (of_two o x y)) (not_sent o (pair_of (x, y)) other) ∙ ap (value_alone None) (sym gives)

pub works_out_value : (o : Operator) (x y t : Tree) → (o ≡ operator.Send → ⊥) → value t ≡ of_two o x y →
    worked_out (operation.Operator o) (Some (x, y)) ≡ Some t
works_out_value o x y t other gives = works_out o x y (value t) other gives

pub works_out_none : (o : Operator) (x y q : Tree) → (o ≡ operator.Send → ⊥) → exit q ≡ of_two o x y →
    worked_out (operation.Operator o) (Some (x, y)) ≡ None
works_out_none o x y q other gives = works_out o x y (exit q) other gives
