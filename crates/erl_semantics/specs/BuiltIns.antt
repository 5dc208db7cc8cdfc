-- Functions that are built in, as total functions of their arguments (erlang(3), lists(3), gen_server(3)); those that start
-- a process stand in `Evaluation`.
use Rattle.std.specs.Prelude.{ℕ, zero, suc, pos, nat_abs, Bool, true, false}
use Rattle.std.specs.Prelude.{if◌then◌else◌, codes, Option, None, Some, is_some}
use Rattle.std.specs.Prelude.{option_map}
use Rattle.erl_term.specs.Tree.{Tree, Trees, int, atom, pid, tuple, list, none, more, count}
use Rattle.erl_term.specs.Order.{tree_cmp}
use Rattle.erl_ir.specs.declared.operation.BuiltIn.{BuiltIn}
use Rattle.erl_ir.specs.declared.operation.BuiltIn.TheVariants as built_in
use Rattle.erl_semantics.specs.State.{Result, value, exit, exit_by, made, Receiver, Act, send, reply}
use Rattle.erl_semantics.specs.Operators.{truth, truth_of, integer, is_equal, receiver_of}

abbrev pub badarg : Result
badarg = exit_by (codes "badarg")

abbrev pub absolute : Tree → Result
absolute (int n) = integer (pos (nat_abs n))
absolute _ = badarg

-- the element of a row at an index, counted from 1
abbrev pub nth : ℕ → Trees → Option Tree
nth n none = None
nth zero (more t ts) = None
nth (suc zero) (more t ts) = Some t
nth (suc (suc n)) (more t ts) = nth (suc n) ts

-- the row with another element at an index, counted from 1, where it has that index
abbrev pub with_nth : ℕ → Tree → Trees → Option Trees
with_nth n u none = None
with_nth zero u (more t ts) = None
with_nth (suc zero) u (more t ts) = Some (more u ts)
with_nth (suc (suc n)) u (more t ts) = option_map (λ us. more t us) (with_nth (suc n) u ts)

abbrev pub reversed_onto : Trees → Trees → Trees
reversed_onto none us = us
reversed_onto (more t ts) us = reversed_onto ts (more t us)

abbrev pub has_member : Tree → Trees → Bool
has_member t none = false
has_member t (more u us) = if is_equal (tree_cmp t u) then true else has_member t us

abbrev pub value_or_badarg : Option Tree → Result
value_or_badarg None = badarg
value_or_badarg (Some t) = value t

abbrev pub made_or_badarg : Option Trees → Result
made_or_badarg None = badarg
made_or_badarg (Some ts) = made (tuple ts)

-- the same at the index that a term is
abbrev pub element_of : Tree → Trees → Option Tree
element_of (int (pos n)) ts = nth n ts
element_of _ ts = None

abbrev pub with_element : Tree → Tree → Trees → Option Trees
with_element (int (pos n)) u ts = with_nth n u ts
with_element _ u ts = None

abbrev pub element : Tree → Tree → Result
element x (tuple ts) = value_or_badarg (element_of x ts)
element x _ = badarg

abbrev pub set_element : Tree → Tree → Tree → Result
set_element x (tuple ts) u = made_or_badarg (with_element x u ts)
set_element x _ u = badarg

abbrev pub head : Tree → Result
head (list (more t ts)) = value t
head _ = badarg

abbrev pub tail : Tree → Result
tail (list (more t ts)) = value (list ts)
tail _ = badarg

abbrev pub list_length : Tree → Result
list_length (list ts) = value (int (pos (count ts)))
list_length _ = badarg

abbrev pub size_of_tuple : Tree → Result
size_of_tuple (tuple ts) = value (int (pos (count ts)))
size_of_tuple _ = badarg

-- of anything but a list `lists:reverse/1` has no clause
abbrev pub reversed : Tree → Result
reversed (list ts) = made (list (reversed_onto ts none))
reversed _ = exit_by (codes "function_clause")

abbrev pub member : Tree → Tree → Result
member t (list ts) = value (truth (has_member t ts))
member t _ = badarg

-- kinds of terms

abbrev pub is_int : Tree → Bool
is_int (int n) = true
is_int _ = false

abbrev pub is_atom : Tree → Bool
is_atom (atom cs) = true
is_atom _ = false

abbrev pub is_pid : Tree → Bool
is_pid (pid n) = true
is_pid _ = false

abbrev pub is_tuple : Tree → Bool
is_tuple (tuple ts) = true
is_tuple _ = false

abbrev pub is_list : Tree → Bool
is_list (list ts) = true
is_list _ = false

abbrev pub ok : Result
ok = value (atom (codes "ok"))

abbrev pub if_receiver : Option Receiver → Result
if_receiver None = badarg
if_receiver (Some receiver) = ok

-- whether a term is of the kind that a test asks for
abbrev pub is_of_kind : BuiltIn → Tree → Bool
is_of_kind built_in.IsAtom t = is_atom t
is_of_kind built_in.IsInteger t = is_int t
is_of_kind built_in.IsList t = is_list t
is_of_kind built_in.IsPid t = is_pid t
is_of_kind built_in.IsTuple t = is_tuple t
is_of_kind built_in.IsBoolean t = is_some (truth_of t)
is_of_kind _ t = false

abbrev pub boolean : Bool → Result
boolean b = value (truth b)

abbrev pub not_in_profile : Result
not_in_profile = exit_by (codes "not_in_profile")

-- with another number of arguments there is no such function, which never comes of a source
abbrev pub no_function : Result
no_function = exit_by (codes "undef")

-- What a call gives in a process, by how many arguments there are

abbrev pub of_none : ℕ → BuiltIn → Result
of_none self built_in.SelfPid = value (pid self)
of_none self _ = no_function

abbrev pub of_one : BuiltIn → Tree → Result
of_one built_in.Abs x = absolute x
of_one built_in.Hd x = head x
of_one built_in.Tl x = tail x
of_one built_in.Length x = list_length x
of_one built_in.TupleSize x = size_of_tuple x
of_one built_in.IsAtom x = boolean (is_of_kind built_in.IsAtom x)
of_one built_in.IsInteger x = boolean (is_of_kind built_in.IsInteger x)
of_one built_in.IsList x = boolean (is_of_kind built_in.IsList x)
of_one built_in.IsPid x = boolean (is_of_kind built_in.IsPid x)
of_one built_in.IsTuple x = boolean (is_of_kind built_in.IsTuple x)
of_one built_in.IsBoolean x = boolean (is_of_kind built_in.IsBoolean x)
of_one built_in.Exit x = exit x
of_one built_in.Error x = exit x
of_one built_in.Reverse x = reversed x
of_one _ x = no_function

-- `gen_server:call` is outside of the profile
abbrev pub of_two : BuiltIn → Tree → Tree → Result
of_two built_in.Element x y = element x y
of_two built_in.Member x y = member x y
of_two built_in.Cast x y = if_receiver (receiver_of x)
of_two built_in.Reply x y = ok
of_two built_in.Call x y = not_in_profile
of_two _ x y = no_function

abbrev pub of_three : BuiltIn → Tree → Tree → Tree → Result
of_three built_in.SetElement x y z = set_element x y z
of_three built_in.Call x y z = not_in_profile
of_three _ x y z = no_function

abbrev pub given : ℕ → BuiltIn → Trees → Result
given self f none = of_none self f
given self f (more x none) = of_one f x
given self f (more x (more y none)) = of_two f x y
given self f (more x (more y (more z none))) = of_three f x y z
given self f ts = no_function

-- `{'$gen_cast',T}`
abbrev pub cast_of : Tree → Tree
cast_of t = tuple (more (atom (codes "$gen_cast")) (more t none))

abbrev pub cast_to : Option Receiver → Tree → Option Act
cast_to None t = None
cast_to (Some receiver) t = Some (send receiver (cast_of t))

-- A client is written `{<0.0.0>,N}`, by the number of its call; a reply to anything else is dropped.

abbrev pub number_of : Tree → Option ℕ
number_of (tuple (more (pid zero) (more (int (pos n)) none))) = Some n
number_of _ = None

abbrev pub reply_to : Tree → Tree → Option Act
reply_to from t = option_map (λ n. reply n t) (number_of from)

-- and what it does
abbrev pub does : BuiltIn → Trees → Option Act
does built_in.Cast (more to (more t none)) = cast_to (receiver_of to) t
does built_in.Reply (more from (more t none)) = reply_to from t
does _ ts = None
