-- What the Erlang Reference Manual, erlang(3) and lists(3) say of `div` and `rem`, of elements of tuples, of `lists:reverse/1`
-- and `lists:member/2`, and of guards: laws of what the definitions give. Sentences in quotes are theirs.
use Rattle.std.specs.Prelude.{◌≡◌, ◌↔◌, ℕ, ◌+◌, ◌^◌, ◌<◌, ℤ, pos, neg_ℤ, nat_abs, ◌+ℤ◌, ◌*ℤ◌, ◌≤ℤ◌, ◌<ℤ◌}
use Rattle.std.specs.Prelude.{Bool, true, false, ◌&&◌, List, [], ◌∷◌, ◌++◌, length, reverse, Contains, codes}
use Rattle.erl_term.specs.Tree.{Tree, int, atom, tuple, list}
use Rattle.erl_term.specs.Conversions.{row}
use Rattle.erl_ir.specs.declared.operation.Operation.{Operation}
use Rattle.erl_ir.specs.declared.operation.Operation.TheVariants as operation
use Rattle.erl_ir.specs.declared.operation.Operator.{Operator}
use Rattle.erl_ir.specs.declared.operation.Operator.TheVariants as operator
use Rattle.erl_ir.specs.declared.operation.BuiltIn.TheVariants as built_in
use Rattle.erl_ir.specs.Expression as form
use Rattle.erl_ir.specs.Expression.{Expr, Exprs}
use Rattle.erl_semantics.specs.State.{Result, value, exit_by, made, World, Activation, State, with_calls}
use Rattle.erl_semantics.specs.Operators.{operated}
use Rattle.erl_semantics.specs.BuiltIns.{given}
use Rattle.erl_semantics.specs.Guards.{is_guard_bif, tested}
use Rattle.erl_semantics.specs.Evaluation.{Eval}

-- Reference Manual, Arithmetic Expressions: `div` is "Integer division", `rem` the "Integer remainder of X/Y".

-- `X div Y` and `X rem Y`
abbrev pub div : ℤ → ℤ → Result
div x y = operated operator.Divide (row (int x ∷ int y ∷ []))

abbrev pub rem : ℤ → ℤ → Result
rem x y = operated operator.Remainder (row (int x ∷ int y ∷ []))

-- X is the quotient times Y, and the remainder.
abbrev pub QuotientAndRemainder : Type 0
QuotientAndRemainder = (x y q r : ℤ) → div x y ≡ value (int q) → rem x y ≡ value (int r) → x ≡ q *ℤ y +ℤ r

-- The remainder is smaller than Y, whatever their signs; so Y is not 0.
abbrev pub RemainderIsSmaller : Type 0
RemainderIsSmaller = (x y r : ℤ) → rem x y ≡ value (int r) → nat_abs r < nat_abs y

-- The remainder is 0 or has the sign of X: so the quotient is truncated toward zero.
abbrev pub RemainderHasTheSign : Type 0
RemainderHasTheSign = (x y r : ℤ) → rem x y ≡ value (int r) → (pos 0 ≤ℤ x → pos 0 ≤ℤ r) × (x ≤ℤ pos 0 → r ≤ℤ pos 0)

-- To divide by 0 is `badarith`.
abbrev pub ZeroIsBadarith : Type 0
ZeroIsBadarith = (x : ℤ) → (div x (pos 0) ≡ exit_by (codes "badarith")) × (rem x (pos 0) ≡ exit_by (codes "badarith"))

-- the integers that there are, from -2^63 to 2^63 - 1
abbrev pub least : ℤ
least = neg_ℤ (pos (2 ^ 63))

abbrev pub IsInRange : ℤ → Type 0
IsInRange n = (least ≤ℤ n) × (n <ℤ pos (2 ^ 63))

abbrev pub GivesInteger : Result → Type 0
GivesInteger r = (n : ℤ) × (r ≡ value (int n))

-- By any other Y `rem` gives an integer.
abbrev pub RemainderIsThere : Type 0
RemainderIsThere = (x y : ℤ) → IsInRange x → IsInRange y → ¬ (y ≡ pos 0) → GivesInteger (rem x y)

-- So does `div`, but for the least integer by -1, which is `system_limit`.
abbrev pub QuotientIsThere : Type 0
QuotientIsThere = (x y : ℤ) → IsInRange x → IsInRange y → ¬ (y ≡ pos 0) → ¬ ((x ≡ least) × (y ≡ neg_ℤ (pos 1))) →
    GivesInteger (div x y)

abbrev pub LeastByMinusOneIsPastTheLimits : Type 0
LeastByMinusOneIsPastTheLimits = div least (neg_ℤ (pos 1)) ≡ exit_by (codes "system_limit")

-- erlang(3): `element(N,Tuple)`, `setelement(N,Tuple,Value)` and `tuple_size(Tuple)`, in a process.

abbrev pub element : ℕ → Tree → Tree → Result
element self n t = given self built_in.Element (row (n ∷ t ∷ []))

abbrev pub setelement : ℕ → Tree → Tree → Tree → Result
setelement self n t v = given self built_in.SetElement (row (n ∷ t ∷ v ∷ []))

abbrev pub tuple_size : ℕ → Tree → Result
tuple_size self t = given self built_in.TupleSize (row (t ∷ []))

-- "Returns the Nth element (numbering from 1) of Tuple."
abbrev pub ElementsAreNumberedFromOne : Type 0
ElementsAreNumberedFromOne = (self : ℕ) (before : List Tree) (v : Tree) (behind : List Tree) →
    element self (int (pos (length before + 1))) (tuple (row (before ++ v ∷ behind))) ≡ value v

-- What is no number from 1 to the tuple's size is the number of no element.
abbrev pub NoOtherElements : Type 0
NoOtherElements = (self : ℕ) (n : Tree) (ts : List Tree) → ((k : ℕ) → k < length ts → ¬ (n ≡ int (pos (k + 1)))) →
    element self n (tuple (row ts)) ≡ exit_by (codes "badarg")

-- "Returns a tuple that is a copy of argument Tuple1 with the element specified by integer argument Index (the first element is
-- the element with index 1) replaced by argument Value." What is made is within the limits (`made`).
abbrev pub SetElementReplaces : Type 0
SetElementReplaces = (self : ℕ) (before : List Tree) (t : Tree) (behind : List Tree) (v : Tree) →
    setelement self (int (pos (length before + 1))) (tuple (row (before ++ t ∷ behind))) v ≡
    made (tuple (row (before ++ v ∷ behind)))

-- So it has the value there,
abbrev pub SetElementIsRead : Type 0
SetElementIsRead = (self : ℕ) (n t v u : Tree) → setelement self n t v ≡ value u → element self n u ≡ value v

-- elsewhere what the tuple has,
abbrev pub OtherElementsAreKept : Type 0
OtherElementsAreKept = (self : ℕ) (n m t v u : Tree) → setelement self n t v ≡ value u → ¬ (m ≡ n) →
    element self m u ≡ element self m t

-- and as many elements.
abbrev pub TupleSizeIsKept : Type 0
TupleSizeIsKept = (self : ℕ) (n t v u : Tree) → setelement self n t v ≡ value u → tuple_size self u ≡ tuple_size self t

-- What has no such element has none to be replaced, and the other way round.
abbrev pub SetElementFailsWhereElementDoes : Type 0
SetElementFailsWhereElementDoes = (self : ℕ) (n t v : Tree) →
    (setelement self n t v ≡ exit_by (codes "badarg")) ↔ (element self n t ≡ exit_by (codes "badarg"))

-- lists(3): `lists:reverse(List)` and `lists:member(Elem,List)`; erlang(3): `length(List)`.

abbrev pub reverse_of : ℕ → Tree → Result
reverse_of self l = given self built_in.Reverse (row (l ∷ []))

abbrev pub length_of : ℕ → Tree → Result
length_of self l = given self built_in.Length (row (l ∷ []))

abbrev pub member : ℕ → Tree → Tree → Result
member self t l = given self built_in.Member (row (t ∷ l ∷ []))

-- "Returns a list with the elements in List1 in reverse order." What is made is within the limits (`made`).
abbrev pub ReverseOrder : Type 0
ReverseOrder = (self : ℕ) (ts : List Tree) → reverse_of self (list (row ts)) ≡ made (list (row (reverse ts)))

-- What is reversed twice is the list itself,
abbrev pub ReversedTwice : Type 0
ReversedTwice = (self : ℕ) (l m : Tree) → reverse_of self l ≡ value m → reverse_of self m ≡ value l

-- and what is reversed is as long.
abbrev pub LengthIsKept : Type 0
LengthIsKept = (self : ℕ) (l m : Tree) → reverse_of self l ≡ value m → length_of self m ≡ length_of self l

-- "Returns true if Elem matches some element of List, otherwise false."
abbrev pub MembersAreElements : Type 0
MembersAreElements = (self : ℕ) (t : Tree) (ts : List Tree) →
    ((member self t (list (row ts)) ≡ value (atom (codes "true"))) ↔ Contains ts t) ×
    ((member self t (list (row ts)) ≡ value (atom (codes "false"))) ↔ (¬ Contains ts t))

-- Reference Manual, Guard Sequences: "The set of valid guard expressions is a subset of the set of valid Erlang expressions":
-- variables and literals, what makes a tuple or a list of them, all operators but `++` and `!`, the functions "allowed in guard
-- expressions" (`is_guard_bif`), and `andalso` and `orelse`, each side of which is one expression.

abbrev pub is_guard_operator : Operator → Bool
is_guard_operator operator.Append = false
is_guard_operator operator.Send = false
is_guard_operator _ = true

abbrev pub is_guard_operation : Operation → Bool
is_guard_operation operation.Tuple = true
is_guard_operation operation.List = true
is_guard_operation operation.Cons = true
is_guard_operation (operation.Operator o) = is_guard_operator o
is_guard_operation (operation.BuiltIn f qualified) = is_guard_bif f
is_guard_operation (operation.Local name) = false
is_guard_operation (operation.Remote module_name name) = false

abbrev mutual
  pub is_guard_expression : Expr → Bool
  is_guard_expression (form.literal t) = true
  is_guard_expression (form.variable index) = true
  is_guard_expression (form.apply op es) = is_guard_operation op && are_guard_expressions es
  is_guard_expression (form.match p body) = false
  is_guard_expression (form.block body) = false
  is_guard_expression (form.case subject cs) = false
  is_guard_expression (form.short_circuit c left right) = is_one_guard_expression left && is_one_guard_expression right

  pub are_guard_expressions : Exprs → Bool
  are_guard_expressions form.none = true
  are_guard_expressions (form.more e es) = is_guard_expression e && are_guard_expressions es

  pub is_one_guard_expression : Exprs → Bool
  is_one_guard_expression form.none = false
  is_one_guard_expression (form.more e form.none) = is_guard_expression e
  is_one_guard_expression (form.more e (form.more f es)) = false

-- A guard expression gives as a test, whether a value or a failure, just what comes of it where it is evaluated; "evaluation of a
-- guard expression must be guaranteed to be free of side effects": what it leaves behind is the calls that it made.
abbrev pub GuardsAreExpressions : Type 0
GuardsAreExpressions = (w : World) (a : Activation) (tail : Bool) (e : Expr) (s : State) (r : Result) (left : State) →
    is_guard_expression e ≡ true →
    let test = tested w.pid s.bindings e s.calls in
    Eval w a tail e s r left ↔ ((r ≡ test.0) × (left ≡ with_calls test.1 s))

-- Any expression that gives a value as a test gives that value where it is evaluated, and does nothing.
abbrev pub GuardValuesAreValues : Type 0
GuardValuesAreValues = (w : World) (a : Activation) (tail : Bool) (e : Expr) (s : State) (t : Tree) (calls : ℕ) →
    tested w.pid s.bindings e s.calls ≡ (value t, calls) → (r : Result) (left : State) →
    Eval w a tail e s r left ↔ ((r ≡ value t) × (left ≡ with_calls calls s))
