-- Each operation has a rule of its own: what it gives of as many operands as it is of is never the `undef` of what no source
-- says.
use Rattle.std.specs.Prelude.{◌≡◌, ◌≤◌, ℕ, Bool, true, false, IsTrue, codes}
use Rattle.std.specs.Str.{bytes_eq}
use Rattle.erl_term.specs.Tree.{Tree, Trees, int, atom, pid, tuple, list, count}
use Rattle.erl_ir.specs.declared.operation.BuiltIn.{BuiltIn}
use Rattle.erl_ir.specs.declared.operation.BuiltIn.TheVariants as built_in
use Rattle.erl_ir.specs.declared.operation.Operator.{Operator}
use Rattle.erl_semantics.specs.State.{Result, value, rest, exit, State, World}
use Rattle.erl_semantics.specs.Operators.{operated, consed}
use Rattle.erl_semantics.specs.BuiltIns.{given}
use Rattle.erl_semantics.specs.Guards.{guard_operated}
use Rattle.erl_semantics.specs.OperatorLaws.{is_guard_operator}
use Rattle.erl_semantics.specs.Starting.{at_once, register_in_mode, way_of}
use Rattle.source_laws.specs.Formed.{operands_of, takes}

-- an exit by `undef`

abbrev pub is_undef_reason : Tree → Bool
is_undef_reason (int n) = false
is_undef_reason (atom cs) = bytes_eq cs (codes "undef")
is_undef_reason (pid n) = false
is_undef_reason (tuple ts) = false
is_undef_reason (list ts) = false

abbrev pub is_undef : Result → Bool
is_undef (value t) = false
is_undef (rest p) = false
is_undef (exit t) = is_undef_reason t

-- an operator of as many operands as it has, in a process and in a guard

abbrev pub OperatorsHaveRules : Type 0
OperatorsHaveRules = (o : Operator) (ts : Trees) → count ts ≡ operands_of o → is_undef (operated o ts) ≡ false

abbrev pub GuardOperatorsHaveRules : Type 0
GuardOperatorsHaveRules = (o : Operator) (ts : Trees) → IsTrue (is_guard_operator o) → count ts ≡ operands_of o →
    is_undef (guard_operated o ts) ≡ false

-- a list with a tail, of one element or more
abbrev pub ListsHaveRules : Type 0
ListsHaveRules = (ts : Trees) → 2 ≤ count ts → is_undef (consed ts) ≡ false

-- `exit/1` and `error/1`, which end a process by any reason
abbrev pub ends_by_its_argument : BuiltIn → Bool
ends_by_its_argument built_in.Exit = true
ends_by_its_argument built_in.Error = true
ends_by_its_argument _ = false

-- a function that is built in, works at once, and is called with as many arguments as there is one of
abbrev pub FunctionsHaveRules : Type 0
FunctionsHaveRules = (self : ℕ) (f : BuiltIn) (ts : Trees) → way_of f ≡ at_once → ends_by_its_argument f ≡ false →
    IsTrue (takes f (count ts)) → is_undef (given self f ts) ≡ false

-- and `register/2`
abbrev pub NamingHasRules : Type 0
NamingHasRules = (w : World) (ts : Trees) (s : State) → IsTrue (takes built_in.Register (count ts)) →
    is_undef (register_in_mode w w.mode ts s).0 ≡ false
