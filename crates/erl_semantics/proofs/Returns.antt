-- Operators and functions that are built in give a value or an exit, and do no more than send and reply.
use Rattle.std.specs.Prelude.{ℕ, ℤ, neg_ℤ, pos, nat_abs, int_div, int_rem, ◌*ℤ◌, ◌+ℤ◌, ◌-ℤ◌, Bool, true, false, ◌&&◌, ◌||◌, not}
use Rattle.std.specs.Prelude.{if◌then◌else◌, codes, Option, None, Some, option_map}
use Rattle.erl_term.specs.Accessors.{int_of}
use Rattle.erl_term.specs.Rows.{append_trees}
use Rattle.erl_term.specs.Tree.{Tree, Trees, int, atom, pid, tuple, list, none, more}
use Rattle.erl_ir.specs.declared.operation.BuiltIn.{BuiltIn}
use Rattle.erl_ir.specs.declared.operation.BuiltIn.TheVariants as built_in
use Rattle.erl_ir.specs.declared.operation.Operator.{Operator}
use Rattle.erl_ir.specs.declared.operation.Operator.TheVariants as operator
use Rattle.erl_semantics.specs.State.{Receiver, Act, reply, Result, value, rest, exit, exit_by, bound_to, made, is_within}
use Rattle.erl_semantics.specs.Operators.{truth, truth_of, fits, integer, of_integer, is_zero, of_truth, receiver_of, operated, sends}
use Rattle.erl_semantics.specs.Operators.{appended_to, appended, before_tail, consed_row, consed, made_of, sent_to, sent}
use Rattle.erl_semantics.specs.Operators as operators
use Rattle.erl_semantics.specs.BuiltIns.{absolute, element_of, with_element, element, set_element, head, tail, list_length}
use Rattle.erl_semantics.specs.BuiltIns.{size_of_tuple, reversed, reversed_onto, member, value_or_badarg, made_or_badarg, if_receiver}
use Rattle.erl_semantics.specs.BuiltIns.{of_none, given, cast_to, number_of, reply_to, does}
use Rattle.erl_semantics.specs.BuiltIns as built_ins
use Rattle.erl_semantics.specs.OutcomeLaws.{IsMessage}

-- a value or an exit
abbrev pub Returns : Result → Type 0
Returns (value t) = Unit {0}
Returns (rest p) = ⊥
Returns (exit t) = Unit {0}

either_returns : (b : Bool) (r q : Result) → Returns r → Returns q → Returns (if b then r else q)
either_returns true r q one other = one
either_returns false r q one other = other

pub bound_returns : (t : Option Tree) → Returns (bound_to t)
bound_returns None = tt
bound_returns (Some t) = tt

pub made_returns : (t : Tree) → Returns (made t)
made_returns t = either_returns (is_within t) (value t) (exit_by (codes "system_limit")) tt tt

integer_returns : (n : ℤ) → Returns (integer n)
integer_returns n = either_returns (fits n) (value (int n)) (exit_by (codes "system_limit")) tt tt

of_integer_returns : (f : ℤ → Result) (n : Option ℤ) → ((n : ℤ) → Returns (f n)) → Returns (of_integer f n)
of_integer_returns f None each = tt
of_integer_returns f (Some n) each = each n

arithmetic_returns : (f : ℤ → ℤ → Result) (x y : Tree) → ((m n : ℤ) → Returns (f m n)) → Returns (operators.arithmetic f x y)
arithmetic_returns f x y each = of_integer_returns (λ m. of_integer (λ n. f m n) (int_of y)) (int_of x)
    (λ m. of_integer_returns (λ n. f m n) (int_of y) (λ n. each m n))

divided_returns : (f : ℤ → ℤ → ℤ) (m n : ℤ) → Returns (operators.divided f m n)
divided_returns f m n =
    either_returns (is_zero n) (exit_by (codes "badarith")) (integer (f m n)) tt (integer_returns (f m n))

of_truth_returns : (f : Bool → Result) (b : Option Bool) → ((b : Bool) → Returns (f b)) → Returns (of_truth f b)
of_truth_returns f None each = tt
of_truth_returns f (Some b) each = each b

logical_returns : (f : Bool → Bool → Bool) (x y : Tree) → Returns (operators.logical f x y)
logical_returns f x y = of_truth_returns (λ a. of_truth (λ b. value (truth (f a b))) (truth_of y)) (truth_of x)
    (λ a. of_truth_returns (λ b. value (truth (f a b))) (truth_of y) (λ b. tt))

appended_to_returns : (ts : Trees) (y : Tree) → Returns (appended_to ts y)
appended_to_returns none y = tt
appended_to_returns (more t ts) (list us) = made_returns (list (append_trees (more t ts) us))
appended_to_returns (more t ts) (int n) = tt
appended_to_returns (more t ts) (atom cs) = tt
appended_to_returns (more t ts) (pid n) = tt
appended_to_returns (more t ts) (tuple us) = tt

appended_returns : (x y : Tree) → Returns (appended x y)
appended_returns (list ts) y = appended_to_returns ts y
appended_returns (int n) y = tt
appended_returns (atom cs) y = tt
appended_returns (pid n) y = tt
appended_returns (tuple us) y = tt

before_tail_returns : (t : Tree) (r : Result) → Returns r → Returns (before_tail t r)
before_tail_returns t (value (list ts)) returns = tt
before_tail_returns t (value (int n)) returns = tt
before_tail_returns t (value (atom cs)) returns = tt
before_tail_returns t (value (pid n)) returns = tt
before_tail_returns t (value (tuple us)) returns = tt
before_tail_returns t (rest p) returns = absurd returns
before_tail_returns t (exit u) returns = tt

consed_row_returns : (ts : Trees) → Returns (consed_row ts)
consed_row_returns none = tt
consed_row_returns (more (list ts) none) = tt
consed_row_returns (more (int n) none) = tt
consed_row_returns (more (atom cs) none) = tt
consed_row_returns (more (pid n) none) = tt
consed_row_returns (more (tuple us) none) = tt
consed_row_returns (more t (more u ts)) =
    before_tail_returns t (consed_row (more u ts)) (consed_row_returns (more u ts))

made_of_returns : (r : Result) → Returns r → Returns (made_of r)
made_of_returns (value t) returns = made_returns t
made_of_returns (rest p) returns = absurd returns
made_of_returns (exit t) returns = tt

pub consed_returns : (ts : Trees) → Returns (consed ts)
consed_returns ts = made_of_returns (consed_row ts) (consed_row_returns ts)

sent_returns : (receiver : Option Receiver) (t : Tree) → Returns (sent_to receiver t)
sent_returns None t = tt
sent_returns (Some receiver) t = tt

of_one_returns : (o : Operator) (x : Tree) → Returns (operators.of_one o x)
of_one_returns operator.Negate x = of_integer_returns (λ n. integer (neg_ℤ n)) (int_of x) (λ n. integer_returns (neg_ℤ n))
of_one_returns operator.Not x = of_truth_returns (λ a. value (truth (not a))) (truth_of x) (λ a. tt)
of_one_returns _ x = tt

of_two_returns : (o : Operator) (x y : Tree) → Returns (operators.of_two o x y)
of_two_returns operator.Multiply x y =
    arithmetic_returns (λ m n. integer (m *ℤ n)) x y (λ m n. integer_returns (m *ℤ n))
of_two_returns operator.Divide x y =
    arithmetic_returns (operators.divided int_div) x y (λ m n. divided_returns int_div m n)
of_two_returns operator.Remainder x y =
    arithmetic_returns (operators.divided int_rem) x y (λ m n. divided_returns int_rem m n)
of_two_returns operator.And x y = logical_returns (λ a b. a && b) x y
of_two_returns operator.Add x y = arithmetic_returns (λ m n. integer (m +ℤ n)) x y (λ m n. integer_returns (m +ℤ n))
of_two_returns operator.Subtract x y = arithmetic_returns (λ m n. integer (m -ℤ n)) x y (λ m n. integer_returns (m -ℤ n))
of_two_returns operator.Or x y = logical_returns (λ a b. a || b) x y
of_two_returns operator.Append x y = appended_returns x y
of_two_returns operator.Send x y = sent_returns (receiver_of x) y
of_two_returns _ x y = tt

pub operated_returns : (o : Operator) (ts : Trees) → Returns (operated o ts)
operated_returns o none = tt
operated_returns o (more x none) = of_one_returns o x
operated_returns o (more x (more y none)) = of_two_returns o x y
operated_returns o (more x (more y (more z ts))) = tt

absolute_returns : (x : Tree) → Returns (absolute x)
absolute_returns (int n) = integer_returns (pos (nat_abs n))
absolute_returns _ = tt

value_or_badarg_returns : (t : Option Tree) → Returns (value_or_badarg t)
value_or_badarg_returns None = tt
value_or_badarg_returns (Some t) = tt

made_or_badarg_returns : (ts : Option Trees) → Returns (made_or_badarg ts)
made_or_badarg_returns None = tt
made_or_badarg_returns (Some ts) = made_returns (tuple ts)

element_returns : (x y : Tree) → Returns (element x y)
element_returns x (tuple ts) = value_or_badarg_returns (element_of x ts)
element_returns x (int n) = tt
element_returns x (atom cs) = tt
element_returns x (pid n) = tt
element_returns x (list ts) = tt

set_element_returns : (x y z : Tree) → Returns (set_element x y z)
set_element_returns x (tuple ts) z = made_or_badarg_returns (with_element x z ts)
set_element_returns x (int n) z = tt
set_element_returns x (atom cs) z = tt
set_element_returns x (pid n) z = tt
set_element_returns x (list ts) z = tt

head_returns : (x : Tree) → Returns (head x)
head_returns (list (more t ts)) = tt
head_returns (list none) = tt
head_returns (int n) = tt
head_returns (atom cs) = tt
head_returns (pid n) = tt
head_returns (tuple ts) = tt

tail_returns : (x : Tree) → Returns (tail x)
tail_returns (list (more t ts)) = tt
tail_returns (list none) = tt
tail_returns (int n) = tt
tail_returns (atom cs) = tt
tail_returns (pid n) = tt
tail_returns (tuple ts) = tt

list_length_returns : (x : Tree) → Returns (list_length x)
list_length_returns (list ts) = tt
list_length_returns _ = tt

size_of_tuple_returns : (x : Tree) → Returns (size_of_tuple x)
size_of_tuple_returns (tuple ts) = tt
size_of_tuple_returns _ = tt

reversed_returns : (x : Tree) → Returns (reversed x)
reversed_returns (list ts) = made_returns (list (reversed_onto ts none))
reversed_returns _ = tt

member_returns : (x y : Tree) → Returns (member x y)
member_returns x (list ts) = tt
member_returns x (int n) = tt
member_returns x (atom cs) = tt
member_returns x (pid n) = tt
member_returns x (tuple ts) = tt

if_receiver_returns : (receiver : Option Receiver) → Returns (if_receiver receiver)
if_receiver_returns None = tt
if_receiver_returns (Some receiver) = tt

built_in_of_none : (self : ℕ) (f : BuiltIn) → Returns (of_none self f)
built_in_of_none self built_in.SelfPid = tt
built_in_of_none self _ = tt

built_in_of_one : (f : BuiltIn) (x : Tree) → Returns (built_ins.of_one f x)
built_in_of_one built_in.Abs x = absolute_returns x
built_in_of_one built_in.Hd x = head_returns x
built_in_of_one built_in.Tl x = tail_returns x
built_in_of_one built_in.Length x = list_length_returns x
built_in_of_one built_in.TupleSize x = size_of_tuple_returns x
built_in_of_one built_in.Reverse x = reversed_returns x
built_in_of_one _ x = tt

built_in_of_two : (f : BuiltIn) (x y : Tree) → Returns (built_ins.of_two f x y)
built_in_of_two built_in.Element x y = element_returns x y
built_in_of_two built_in.Member x y = member_returns x y
built_in_of_two built_in.Cast x y = if_receiver_returns (receiver_of x)
built_in_of_two _ x y = tt

built_in_of_three : (f : BuiltIn) (x y z : Tree) → Returns (built_ins.of_three f x y z)
built_in_of_three built_in.SetElement x y z = set_element_returns x y z
built_in_of_three _ x y z = tt

pub given_returns : (self : ℕ) (f : BuiltIn) (ts : Trees) → Returns (given self f ts)
given_returns self f none = built_in_of_none self f
given_returns self f (more x none) = built_in_of_one f x
given_returns self f (more x (more y none)) = built_in_of_two f x y
given_returns self f (more x (more y (more z none))) = built_in_of_three f x y z
given_returns self f (more x (more y (more z (more t ts)))) = tt

-- What is done is a message, if something is done.

abbrev pub IsNoStart : Option Act → Type 0
IsNoStart None = Unit {0}
IsNoStart (Some act) = IsMessage act

sent_is_no_start : (receiver : Option Receiver) (t : Tree) → IsNoStart (sent receiver t)
sent_is_no_start None t = tt
sent_is_no_start (Some receiver) t = tt

pub sends_no_start : (o : Operator) (ts : Trees) → IsNoStart (sends o ts)
sends_no_start operator.Send none = tt
sends_no_start operator.Send (more to none) = tt
sends_no_start operator.Send (more to (more message none)) = sent_is_no_start (receiver_of to) message
sends_no_start operator.Send (more to (more message (more t ts))) = tt
sends_no_start _ ts = tt

cast_is_no_start : (receiver : Option Receiver) (t : Tree) → IsNoStart (cast_to receiver t)
cast_is_no_start None t = tt
cast_is_no_start (Some receiver) t = tt

replied_is_no_start : (number : Option ℕ) (t : Tree) → IsNoStart (option_map (λ n. reply n t) number)
replied_is_no_start None t = tt
replied_is_no_start (Some n) t = tt

pub reply_is_no_start : (from t : Tree) → IsNoStart (reply_to from t)
reply_is_no_start from t = replied_is_no_start (number_of from) t

pub does_no_start : (f : BuiltIn) (ts : Trees) → IsNoStart (does f ts)
does_no_start built_in.Cast none = tt
does_no_start built_in.Cast (more to none) = tt
does_no_start built_in.Cast (more to (more t none)) = cast_is_no_start (receiver_of to) t
does_no_start built_in.Cast (more to (more t (more u ts))) = tt
does_no_start built_in.Reply none = tt
does_no_start built_in.Reply (more from none) = tt
does_no_start built_in.Reply (more from (more t none)) = reply_is_no_start from t
does_no_start built_in.Reply (more from (more t (more u ts))) = tt
does_no_start _ ts = tt
