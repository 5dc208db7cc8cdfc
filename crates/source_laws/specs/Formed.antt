-- Modules that are well formed: where expressions stand, and how many (Erlang Reference Manual, Expressions; Guard Sequences).
--
-- Each body has an expression, and each clause of a `case` one pattern. An operation has as many operands as it is of, and a
-- call of the same module is of a function that it has. In a guard stand guard expressions alone.
use Rattle.std.specs.Prelude.{◌≡◌, ◌≤◌, ℕ, ◌==◌, Bool, true, ◌||◌, nat_le, All, IsTrue, is_some}
use Rattle.erl_ir.specs.declared.operation.BuiltIn.{BuiltIn}
use Rattle.erl_ir.specs.declared.operation.BuiltIn.TheVariants as built_in
use Rattle.erl_ir.specs.declared.operation.Operation.{Operation}
use Rattle.erl_ir.specs.declared.operation.Operation.TheVariants as operation
use Rattle.erl_ir.specs.declared.operation.Operator.{Operator}
use Rattle.erl_ir.specs.declared.operation.Operator.TheVariants as operator
use Rattle.erl_ir.specs.declared.function.Definition.{Definition}
use Rattle.erl_ir.specs.declared.function.Definition.TheVariants as definition
use Rattle.erl_ir.specs.Expression as form
use Rattle.erl_ir.specs.Expression.{Expr, Exprs, Guards, Clauses, expr_count}
use Rattle.erl_ir.specs.Module.{Forms, function_of}
use Rattle.erl_lower.specs.WellScoped.{HavePatterns}
use Rattle.erl_semantics.specs.OperatorLaws.{is_guard_operation}

-- how many operands an operator has: `-` before an integer and `not` one, all others two
abbrev pub operands_of : Operator → ℕ
operands_of operator.Negate = 1
operands_of operator.Not = 1
operands_of _ = 2

-- whether there is a function that is built in of so many arguments (erlang(3), gen_server(3), lists(3), proc_lib(3))
abbrev pub takes : BuiltIn → ℕ → Bool
takes built_in.SelfPid n = n == 0
takes built_in.Element n = n == 2
takes built_in.Member n = n == 2
takes built_in.Cast n = n == 2
takes built_in.Reply n = n == 2
takes built_in.Register n = n == 2
takes built_in.SetElement n = n == 3
takes built_in.Spawn n = n == 3
takes built_in.SpawnLink n = n == 3
takes built_in.ProcLibSpawnLink n = n == 3
takes built_in.Call n = n == 2 || n == 3
takes built_in.StartLink n = n == 3 || n == 4
takes _ n = n == 1

-- whether an operation is of so many operands; `[E1,..,En|E]` has one element at least, and a function any number of arguments
abbrev pub is_of : Operation → ℕ → Bool
is_of operation.Tuple n = true
is_of operation.List n = true
is_of operation.Cons n = nat_le 2 n
is_of (operation.Operator o) n = n == operands_of o
is_of (operation.BuiltIn f qualified) n = takes f n
is_of (operation.Local name) n = true
is_of (operation.Remote called name) n = true

-- whether a call of the same module is of a function that it has (Erlang Reference Manual, Functions)
abbrev pub is_defined : Forms → Operation → ℕ → Bool
is_defined m (operation.Local name) n = is_some (function_of name n m)
is_defined m _ n = true

-- A test of a guard is a variable, a literal, an operation that guards may have, or a connective, each side of which is one
-- test.
abbrev mutual
  pub IsTest : Expr → Type 0
  IsTest (form.literal t) = Unit {0}
  IsTest (form.variable index) = Unit {0}
  IsTest (form.apply op es) = IsTrue (is_guard_operation op) × IsTrue (is_of op (expr_count es)) × AreTests es
  IsTest (form.match p body) = ⊥
  IsTest (form.block body) = ⊥
  IsTest (form.case subject cs) = ⊥
  IsTest (form.short_circuit c left right) = (expr_count left ≡ 1) × AreTests left × (expr_count right ≡ 1) × AreTests right

  pub AreTests : Exprs → Type 0
  AreTests form.none = Unit {0}
  AreTests (form.more e es) = IsTest e × AreTests es

abbrev pub AreGuards : Guards → Type 0
AreGuards form.no_guards = Unit {0}
AreGuards (form.guard tests gs) = AreTests tests × AreGuards gs

abbrev mutual
  pub IsFormed : Forms → Expr → Type 0
  IsFormed m (form.literal t) = Unit {0}
  IsFormed m (form.variable index) = Unit {0}
  IsFormed m (form.apply op es) =
      IsTrue (is_of op (expr_count es)) × IsTrue (is_defined m op (expr_count es)) × AreFormed m es
  IsFormed m (form.match p body) = (1 ≤ expr_count body) × AreFormed m body
  IsFormed m (form.block body) = (1 ≤ expr_count body) × AreFormed m body
  IsFormed m (form.case subject cs) = (1 ≤ expr_count subject) × AreFormed m subject × AreFormedClauses m cs × HavePatterns 1 cs
  IsFormed m (form.short_circuit c left right) =
      (1 ≤ expr_count left) × AreFormed m left × (1 ≤ expr_count right) × AreFormed m right

  pub AreFormed : Forms → Exprs → Type 0
  AreFormed m form.none = Unit {0}
  AreFormed m (form.more e es) = IsFormed m e × AreFormed m es

  pub AreFormedClauses : Forms → Clauses → Type 0
  AreFormedClauses m form.no_clauses = Unit {0}
  AreFormedClauses m (form.clause ps gs body cs) =
      AreGuards gs × (1 ≤ expr_count body) × AreFormed m body × AreFormedClauses m cs

abbrev pub IsFormedFunction : Forms → Definition → Type 0
IsFormedFunction m (definition.Clauses cs) = AreFormedClauses m cs
IsFormedFunction m (definition.Loop ps gs cs) = AreGuards gs × AreFormedClauses m cs

-- each function of a module is well formed
abbrev pub IsWellFormed : Forms → Type 0
IsWellFormed m = All (λ f. IsFormedFunction m f.1.definition) m.functions
