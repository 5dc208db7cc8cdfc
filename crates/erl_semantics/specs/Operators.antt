-- Operators, as total functions of the values of their operands (Erlang Reference Manual, Expressions: Unary Operators,
-- Arithmetic Expressions, Boolean Expressions, Term Comparisons, List Operations, Send).
use Rattle.std.specs.Prelude.{ℕ, ◌^◌, ℤ, pos, negsuc, ◌+ℤ◌, ◌-ℤ◌, ◌*ℤ◌, neg_ℤ, int_div, int_rem}
use Rattle.std.specs.Prelude.{Bool, true, false, not, ◌&&◌, ◌||◌, if◌then◌else◌, nat_lt, List, codes}
use Rattle.std.specs.Prelude.{Option, None, Some}
use Rattle.std.specs.Str.{bytes_eq}
use Rattle.std.specs.declared.cmp.Ordering.{Ordering}
use Rattle.std.specs.declared.cmp.Ordering.TheVariants as ordering
use Rattle.erl_term.specs.Tree.{Tree, Trees, int, atom, pid, tuple, list, none, more}
use Rattle.erl_term.specs.Rows.{append_trees}
use Rattle.erl_term.specs.Accessors.{int_of}
use Rattle.erl_term.specs.Order.{tree_cmp}
use Rattle.erl_ir.specs.declared.operation.Operator.{Operator}
use Rattle.erl_ir.specs.declared.operation.Operator.TheVariants as operator
use Rattle.erl_semantics.specs.State.{Result, value, exit_by, made, Receiver, named, process, Act, send}

-- Truth values are the atoms `true` and `false`.

abbrev pub truth : Bool → Tree
truth true = atom (codes "true")
truth false = atom (codes "false")

abbrev pub truth_of_atom : List ℕ → Option Bool
truth_of_atom cs =
    if bytes_eq cs (codes "true") then Some true else (if bytes_eq cs (codes "false") then Some false else None)

abbrev pub truth_of : Tree → Option Bool
truth_of (int n) = None
truth_of (atom cs) = truth_of_atom cs
truth_of (pid n) = None
truth_of (tuple ts) = None
truth_of (list ts) = None

-- Arithmetic on integers from -2^63 to 2^63 - 1: an operand of another kind is `badarith`, a result past them a breach of
-- the limits.

abbrev pub fits : ℤ → Bool
fits (pos n) = nat_lt n (2 ^ 63)
fits (negsuc n) = nat_lt n (2 ^ 63)

abbrev pub integer : ℤ → Result
integer n = if fits n then value (int n) else exit_by (codes "system_limit")

abbrev pub of_integer : (ℤ → Result) → Option ℤ → Result
of_integer f None = exit_by (codes "badarith")
of_integer f (Some m) = f m

abbrev pub arithmetic : (ℤ → ℤ → Result) → Tree → Tree → Result
arithmetic f x y = of_integer (λ m. of_integer (λ n. f m n) (int_of y)) (int_of x)

abbrev pub is_zero : ℤ → Bool
is_zero (pos n) = nat_lt n 1
is_zero (negsuc n) = false

-- `div` truncates toward zero, and `rem` has the dividend's sign; both are `badarith` where the divisor is zero.
abbrev pub divided : (ℤ → ℤ → ℤ) → ℤ → ℤ → Result
divided f m n = if is_zero n then exit_by (codes "badarith") else integer (f m n)

-- Boolean operators: an operand that is no truth value is `badarg`.

abbrev pub of_truth : (Bool → Result) → Option Bool → Result
of_truth f None = exit_by (codes "badarg")
of_truth f (Some b) = f b

abbrev pub logical : (Bool → Bool → Bool) → Tree → Tree → Result
logical f x y = of_truth (λ a. of_truth (λ b. value (truth (f a b))) (truth_of y)) (truth_of x)

-- Comparisons by the order of terms. There are no floats, so `==` and `=:=` are one.

abbrev pub is_less : Ordering → Bool
is_less ordering.Less = true
is_less ordering.Equal = false
is_less ordering.Greater = false

abbrev pub is_equal : Ordering → Bool
is_equal ordering.Less = false
is_equal ordering.Equal = true
is_equal ordering.Greater = false

abbrev pub is_greater : Ordering → Bool
is_greater ordering.Less = false
is_greater ordering.Equal = false
is_greater ordering.Greater = true

-- whether a comparison holds by the order of its operands
abbrev pub holds_by : Operator → Ordering → Bool
holds_by operator.Equal o = is_equal o
holds_by operator.NotEqual o = not (is_equal o)
holds_by operator.ExactlyEqual o = is_equal o
holds_by operator.ExactlyNotEqual o = not (is_equal o)
holds_by operator.Less o = is_less o
holds_by operator.Greater o = is_greater o
holds_by operator.AtMost o = not (is_greater o)
holds_by operator.AtLeast o = not (is_less o)
holds_by _ o = false

abbrev pub compared : Operator → Tree → Tree → Result
compared operator x y = value (truth (holds_by operator (tree_cmp x y)))

-- `++`: the left operand is a list, else `badarg`. Of the empty list and anything the latter is given, as it is; another
-- list is given one that ends in a list, for there are no others.

abbrev pub appended_to : Trees → Tree → Result
appended_to none y = value y
appended_to (more t ts) (list us) = made (list (append_trees (more t ts) us))
appended_to (more t ts) _ = exit_by (codes "not_in_profile")

abbrev pub appended : Tree → Tree → Result
appended (list ts) y = appended_to ts y
appended _ y = exit_by (codes "badarg")

-- `[E1,..,En|E]`: the value of `E` is a list.

abbrev pub before_tail : Tree → Result → Result
before_tail t (value (list ts)) = value (list (more t ts))
before_tail t r = r

abbrev pub consed_row : Trees → Result
consed_row none = exit_by (codes "undef")
consed_row (more (list ts) none) = value (list ts)
consed_row (more t none) = exit_by (codes "not_in_profile")
consed_row (more t (more u ts)) = before_tail t (consed_row (more u ts))

abbrev pub made_of : Result → Result
made_of (value t) = made t
made_of r = r

abbrev pub consed : Trees → Result
consed ts = made_of (consed_row ts)

-- What an operator gives. A send is no function of its operands alone: what it gives is its message, and `receiver_of` says
-- who gets it.

abbrev pub receiver_of : Tree → Option Receiver
receiver_of (int n) = None
receiver_of (atom cs) = Some (named cs)
receiver_of (pid n) = Some (process n)
receiver_of (tuple ts) = None
receiver_of (list ts) = None

abbrev pub sent_to : Option Receiver → Tree → Result
sent_to None message = exit_by (codes "badarg")
sent_to (Some receiver) message = value message

-- of another number of operands there is no operator, which never comes of a source
abbrev pub no_operator : Result
no_operator = exit_by (codes "undef")

abbrev pub of_one : Operator → Tree → Result
of_one operator.Negate x = of_integer (λ n. integer (neg_ℤ n)) (int_of x)
of_one operator.Not x = of_truth (λ a. value (truth (not a))) (truth_of x)
of_one _ x = no_operator

abbrev pub of_two : Operator → Tree → Tree → Result
of_two operator.Multiply x y = arithmetic (λ m n. integer (m *ℤ n)) x y
of_two operator.Divide x y = arithmetic (divided int_div) x y
of_two operator.Remainder x y = arithmetic (divided int_rem) x y
of_two operator.And x y = logical (λ a b. a && b) x y
of_two operator.Add x y = arithmetic (λ m n. integer (m +ℤ n)) x y
of_two operator.Subtract x y = arithmetic (λ m n. integer (m -ℤ n)) x y
of_two operator.Or x y = logical (λ a b. a || b) x y
of_two operator.Append x y = appended x y
of_two operator.Equal x y = compared operator.Equal x y
of_two operator.NotEqual x y = compared operator.NotEqual x y
of_two operator.ExactlyEqual x y = compared operator.ExactlyEqual x y
of_two operator.ExactlyNotEqual x y = compared operator.ExactlyNotEqual x y
of_two operator.Less x y = compared operator.Less x y
of_two operator.Greater x y = compared operator.Greater x y
of_two operator.AtMost x y = compared operator.AtMost x y
of_two operator.AtLeast x y = compared operator.AtLeast x y
of_two operator.Send x y = sent_to (receiver_of x) y
of_two _ x y = no_operator

abbrev pub operated : Operator → Trees → Result
operated o (more x none) = of_one o x
operated o (more x (more y none)) = of_two o x y
operated o ts = no_operator

-- and what it does: a send sends

abbrev pub sent : Option Receiver → Tree → Option Act
sent None message = None
sent (Some receiver) message = Some (send receiver message)

abbrev pub sends : Operator → Trees → Option Act
sends operator.Send (more to (more message none)) = sent (receiver_of to) message
sends _ ts = None
