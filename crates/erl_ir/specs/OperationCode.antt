-- Operations as ghost values, by numbers.
use Rattle.std.specs.Prelude.{◌≡◌, ℕ, ◌+◌, ◌-◌, Bool, true, false, cond, eqb, refl}
use Rattle.std.proofs.Common.{ap, sym, ◌∙◌}
use base.Stored.{Gv, gnil, gnum, gcons, num, Coded}
use Rattle.erl_term.specs.TreeCode.{chars_code, chars_back, chars_back-code}
use Rattle.erl_ir.specs.declared.operation.Operator.{Operator}
use Rattle.erl_ir.specs.declared.operation.Operator.TheVariants as operator
use Rattle.erl_ir.specs.declared.operation.BuiltIn.{BuiltIn}
use Rattle.erl_ir.specs.declared.operation.BuiltIn.TheVariants as built_in
use Rattle.erl_ir.specs.declared.operation.Operation.{Operation}
use Rattle.erl_ir.specs.declared.operation.Operation.TheVariants as operation

-- an operator's number: its index among them
abbrev pub operator_number : Operator → ℕ
operator_number operator.Negate = 0
operator_number operator.Not = 1
operator_number operator.Multiply = 2
operator_number operator.Divide = 3
operator_number operator.Remainder = 4
operator_number operator.And = 5
operator_number operator.Add = 6
operator_number operator.Subtract = 7
operator_number operator.Or = 8
operator_number operator.Append = 9
operator_number operator.Equal = 10
operator_number operator.NotEqual = 11
operator_number operator.ExactlyEqual = 12
operator_number operator.ExactlyNotEqual = 13
operator_number operator.Less = 14
operator_number operator.Greater = 15
operator_number operator.AtMost = 16
operator_number operator.AtLeast = 17
operator_number operator.Send = 18

abbrev pub operator_of : ℕ → Operator
operator_of n =
    cond (eqb n 0) operator.Negate (cond (eqb n 1) operator.Not (cond (eqb n 2) operator.Multiply (
    cond (eqb n 3) operator.Divide (cond (eqb n 4) operator.Remainder (cond (eqb n 5) operator.And (
    cond (eqb n 6) operator.Add (cond (eqb n 7) operator.Subtract (cond (eqb n 8) operator.Or (
    cond (eqb n 9) operator.Append (cond (eqb n 10) operator.Equal (cond (eqb n 11) operator.NotEqual (
    cond (eqb n 12) operator.ExactlyEqual (cond (eqb n 13) operator.ExactlyNotEqual (cond (eqb n 14) operator.Less (
    cond (eqb n 15) operator.Greater (cond (eqb n 16) operator.AtMost
    (cond (eqb n 17) operator.AtLeast (operator.Send))))))))))))))))))

-- the number of a function that is built in: its index among them
abbrev pub built_in_number : BuiltIn → ℕ
built_in_number built_in.Abs = 0
built_in_number built_in.Element = 1
built_in_number built_in.Hd = 2
built_in_number built_in.Tl = 3
built_in_number built_in.Length = 4
built_in_number built_in.TupleSize = 5
built_in_number built_in.IsAtom = 6
built_in_number built_in.IsInteger = 7
built_in_number built_in.IsList = 8
built_in_number built_in.IsPid = 9
built_in_number built_in.IsTuple = 10
built_in_number built_in.IsBoolean = 11
built_in_number built_in.SelfPid = 12
built_in_number built_in.SetElement = 13
built_in_number built_in.Exit = 14
built_in_number built_in.Error = 15
built_in_number built_in.Spawn = 16
built_in_number built_in.SpawnLink = 17
built_in_number built_in.Register = 18
built_in_number built_in.Cast = 19
built_in_number built_in.Reply = 20
built_in_number built_in.Call = 21
built_in_number built_in.StartLink = 22
built_in_number built_in.Reverse = 23
built_in_number built_in.Member = 24
built_in_number built_in.ProcLibSpawnLink = 25

abbrev pub built_in_of : ℕ → BuiltIn
built_in_of n =
    cond (eqb n 0) built_in.Abs (cond (eqb n 1) built_in.Element (cond (eqb n 2) built_in.Hd (
    cond (eqb n 3) built_in.Tl (cond (eqb n 4) built_in.Length (cond (eqb n 5) built_in.TupleSize (
    cond (eqb n 6) built_in.IsAtom (cond (eqb n 7) built_in.IsInteger (cond (eqb n 8) built_in.IsList (
    cond (eqb n 9) built_in.IsPid (cond (eqb n 10) built_in.IsTuple (cond (eqb n 11) built_in.IsBoolean (
    cond (eqb n 12) built_in.SelfPid (cond (eqb n 13) built_in.SetElement (cond (eqb n 14) built_in.Exit (
    cond (eqb n 15) built_in.Error (cond (eqb n 16) built_in.Spawn (cond (eqb n 17) built_in.SpawnLink (
    cond (eqb n 18) built_in.Register (cond (eqb n 19) built_in.Cast (cond (eqb n 20) built_in.Reply (
    cond (eqb n 21) built_in.Call (cond (eqb n 22) built_in.StartLink (cond (eqb n 23) built_in.Reverse (
    cond (eqb n 24) built_in.Member (built_in.ProcLibSpawnLink)))))))))))))))))))))))))

abbrev pub flag : Bool → ℕ
flag false = 0
flag true = 1

abbrev pub flag_of : ℕ → Bool
flag_of n = cond (eqb n 0) false true

pub flag_of-flag : (it : Bool) → flag_of (flag it) ≡ it
flag_of-flag false = refl
flag_of-flag true = refl

abbrev pub operation_code : Operation → Gv
operation_code operation.Tuple = gnum 0
operation_code operation.List = gnum 1
operation_code operation.Cons = gnum 2
operation_code (operation.Operator it) = gnum (3 + operator_number it)
operation_code (operation.Local name) = gcons (gnum 0) (chars_code name)
operation_code (operation.Remote called name) = gcons (gnum 1) (gcons (chars_code called) (chars_code name))
operation_code (operation.BuiltIn it qualified) = gcons (gnum (2 + built_in_number it)) (gnum (flag qualified))

-- the operation of a number alone, and of a kind's number and what is behind it
abbrev pub bare_of : ℕ → Operation
bare_of n = cond (eqb n 0) operation.Tuple (cond (eqb n 1) operation.List (cond (eqb n 2) operation.Cons
    (operation.Operator (operator_of (n - 3)))))

abbrev pub first_of : Gv → Gv
first_of gnil = gnil
first_of (gnum n) = gnil
first_of (gcons a b) = a

abbrev pub second_of : Gv → Gv
second_of gnil = gnil
second_of (gnum n) = gnil
second_of (gcons a b) = b

abbrev pub call_of : ℕ → Gv → Operation
call_of kind g = cond (eqb kind 0) (operation.Local (chars_back g))
    (cond (eqb kind 1) (operation.Remote (chars_back (first_of g)) (chars_back (second_of g)))
    (operation.BuiltIn (built_in_of (kind - 2)) (flag_of (num g))))

abbrev pub operation_back : Gv → Operation
operation_back gnil = operation.Tuple
operation_back (gnum n) = bare_of n
operation_back (gcons kind g) = call_of (num kind) g

operator_back : (it : Operator) → operation_back (gnum (3 + operator_number it)) ≡ operation.Operator it
operator_back operator.Negate = refl
operator_back operator.Not = refl
operator_back operator.Multiply = refl
operator_back operator.Divide = refl
operator_back operator.Remainder = refl
operator_back operator.And = refl
operator_back operator.Add = refl
operator_back operator.Subtract = refl
operator_back operator.Or = refl
operator_back operator.Append = refl
operator_back operator.Equal = refl
operator_back operator.NotEqual = refl
operator_back operator.ExactlyEqual = refl
operator_back operator.ExactlyNotEqual = refl
operator_back operator.Less = refl
operator_back operator.Greater = refl
operator_back operator.AtMost = refl
operator_back operator.AtLeast = refl
operator_back operator.Send = refl

built_in_back : (it : BuiltIn) (qualified : Bool) →
    operation_back (gcons (gnum (2 + built_in_number it)) (gnum (flag qualified))) ≡ operation.BuiltIn it qualified
built_in_back built_in.Abs qualified = ap (operation.BuiltIn built_in.Abs) (flag_of-flag qualified)
built_in_back built_in.Element qualified = ap (operation.BuiltIn built_in.Element) (flag_of-flag qualified)
built_in_back built_in.Hd qualified = ap (operation.BuiltIn built_in.Hd) (flag_of-flag qualified)
built_in_back built_in.Tl qualified = ap (operation.BuiltIn built_in.Tl) (flag_of-flag qualified)
built_in_back built_in.Length qualified = ap (operation.BuiltIn built_in.Length) (flag_of-flag qualified)
built_in_back built_in.TupleSize qualified = ap (operation.BuiltIn built_in.TupleSize) (flag_of-flag qualified)
built_in_back built_in.IsAtom qualified = ap (operation.BuiltIn built_in.IsAtom) (flag_of-flag qualified)
built_in_back built_in.IsInteger qualified = ap (operation.BuiltIn built_in.IsInteger) (flag_of-flag qualified)
built_in_back built_in.IsList qualified = ap (operation.BuiltIn built_in.IsList) (flag_of-flag qualified)
built_in_back built_in.IsPid qualified = ap (operation.BuiltIn built_in.IsPid) (flag_of-flag qualified)
built_in_back built_in.IsTuple qualified = ap (operation.BuiltIn built_in.IsTuple) (flag_of-flag qualified)
built_in_back built_in.IsBoolean qualified = ap (operation.BuiltIn built_in.IsBoolean) (flag_of-flag qualified)
built_in_back built_in.SelfPid qualified = ap (operation.BuiltIn built_in.SelfPid) (flag_of-flag qualified)
built_in_back built_in.SetElement qualified = ap (operation.BuiltIn built_in.SetElement) (flag_of-flag qualified)
built_in_back built_in.Exit qualified = ap (operation.BuiltIn built_in.Exit) (flag_of-flag qualified)
built_in_back built_in.Error qualified = ap (operation.BuiltIn built_in.Error) (flag_of-flag qualified)
built_in_back built_in.Spawn qualified = ap (operation.BuiltIn built_in.Spawn) (flag_of-flag qualified)
built_in_back built_in.SpawnLink qualified = ap (operation.BuiltIn built_in.SpawnLink) (flag_of-flag qualified)
built_in_back built_in.Register qualified = ap (operation.BuiltIn built_in.Register) (flag_of-flag qualified)
built_in_back built_in.Cast qualified = ap (operation.BuiltIn built_in.Cast) (flag_of-flag qualified)
built_in_back built_in.Reply qualified = ap (operation.BuiltIn built_in.Reply) (flag_of-flag qualified)
built_in_back built_in.Call qualified = ap (operation.BuiltIn built_in.Call) (flag_of-flag qualified)
built_in_back built_in.StartLink qualified = ap (operation.BuiltIn built_in.StartLink) (flag_of-flag qualified)
built_in_back built_in.Reverse qualified = ap (operation.BuiltIn built_in.Reverse) (flag_of-flag qualified)
built_in_back built_in.Member qualified = ap (operation.BuiltIn built_in.Member) (flag_of-flag qualified)
built_in_back built_in.ProcLibSpawnLink qualified = ap (operation.BuiltIn built_in.ProcLibSpawnLink) (flag_of-flag qualified)

pub operation_back-code : (it : Operation) → operation_back (operation_code it) ≡ it
operation_back-code operation.Tuple = refl
operation_back-code operation.List = refl
operation_back-code operation.Cons = refl
operation_back-code (operation.Operator it) = operator_back it
operation_back-code (operation.Local name) = ap operation.Local (chars_back-code name)
operation_back-code (operation.Remote called name) =
    λ i. operation.Remote (chars_back-code called i) (chars_back-code name i)
operation_back-code (operation.BuiltIn it qualified) = built_in_back it qualified

abbrev pub operation_coded : Coded Operation
operation_coded = record {
  code = operation_code;
  inj = λ x y same. sym (operation_back-code x) ∙ ap operation_back same ∙ operation_back-code y;
}
