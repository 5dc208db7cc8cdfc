-- Guards, and the clause that is selected (Erlang Reference Manual, Expressions, Guard Sequences; sentences in quotes are
-- its).
--
-- A guard calls no function but those that are built in, so what it gives is a function of the bindings, and of how many
-- calls were made before it; how many were made behind it is told beside.
use Rattle.std.specs.Prelude.{ℕ, ◌+◌, Bool, true, false, nat_lt, List, codes, slice_get, Option, None, Some}
use Rattle.erl_term.specs.Tree as term
use Rattle.erl_term.specs.Tree.{Tree, Trees}
use Rattle.erl_ir.specs.declared.operation.BuiltIn.{BuiltIn}
use Rattle.erl_ir.specs.declared.operation.BuiltIn.TheVariants as built_in
use Rattle.erl_ir.specs.declared.operation.Connective.{Connective}
use Rattle.erl_ir.specs.declared.operation.Connective.TheVariants.{AndAlso, OrElse}
use Rattle.erl_ir.specs.declared.operation.Operation.{Operation}
use Rattle.erl_ir.specs.declared.operation.Operation.TheVariants as operation
use Rattle.erl_ir.specs.declared.operation.Operator.{Operator}
use Rattle.erl_ir.specs.declared.operation.Operator.TheVariants as operator
use Rattle.erl_ir.specs.Expression as form
use Rattle.erl_ir.specs.Expression.{Expr, Exprs, Guards, Clauses}
use Rattle.erl_semantics.specs.State.{Result, exit_by, exit_by_pair, made, bound_to, value, rest, exit}
use Rattle.erl_semantics.specs.Operators.{operated, truth_of, consed}
use Rattle.erl_semantics.specs.BuiltIns.{given}
use Rattle.erl_semantics.specs.Matching.{matched_each}

-- "illegal guard": it never comes of a source
abbrev pub no_guard : Result
no_guard = exit_by (codes "undef")

-- the operators of guards: all but `++` and `!`
abbrev pub guard_operated : Operator → Trees → Result
guard_operated operator.Append ts = no_guard
guard_operated operator.Send ts = no_guard
guard_operated o ts = operated o ts

-- the functions of guards
abbrev pub is_guard_bif : BuiltIn → Bool
is_guard_bif built_in.Abs = true
is_guard_bif built_in.Element = true
is_guard_bif built_in.Hd = true
is_guard_bif built_in.Tl = true
is_guard_bif built_in.Length = true
is_guard_bif built_in.TupleSize = true
is_guard_bif built_in.IsAtom = true
is_guard_bif built_in.IsInteger = true
is_guard_bif built_in.IsList = true
is_guard_bif built_in.IsPid = true
is_guard_bif built_in.IsTuple = true
is_guard_bif built_in.IsBoolean = true
is_guard_bif built_in.SelfPid = true
is_guard_bif _ = false

-- a result, and how many calls were made behind it
abbrev pub Tested : Type 0
Tested = Result × ℕ

-- a call of a function that is built in: is it one of guards, and is it within the limits
abbrev pub guard_called : Bool → Bool → ℕ → BuiltIn → Trees → ℕ → Tested
guard_called false within self f ts calls = (no_guard, calls)
guard_called true false self f ts calls = (exit_by (codes "system_limit"), calls)
guard_called true true self f ts calls = (given self f ts, calls + 1)

abbrev pub guard_applied : ℕ → Operation → Trees → ℕ → Tested
guard_applied self operation.Tuple ts calls = (made (term.tuple ts), calls)
guard_applied self operation.List ts calls = (made (term.list ts), calls)
guard_applied self operation.Cons ts calls = (consed ts, calls)
guard_applied self (operation.Operator o) ts calls = (guard_operated o ts, calls)
guard_applied self (operation.BuiltIn f qualified) ts calls =
    guard_called (is_guard_bif f) (nat_lt calls 10000) self f ts calls
guard_applied self (operation.Local name) ts calls = (no_guard, calls)
guard_applied self (operation.Remote module_name name) ts calls = (no_guard, calls)

-- what a connective decides by its left side alone
abbrev pub decisive : Connective → Bool
decisive AndAlso = false
decisive OrElse = true

-- the values of operands, or the end of one of them
pub data Values : Type 0 where
  all : Trees → Values
  stopped : Result → Values

abbrev pub with_first : Tree → Values → Values
with_first t (all ts) = all (term.more t ts)
with_first t (stopped r) = stopped r

-- what is done with a value; an end ends the whole

abbrev pub tested_then : (Tree → ℕ → Tested) → Tested → Tested
tested_then f (value t, calls) = f t calls
tested_then f (rest p, calls) = (rest p, calls)
tested_then f (exit t, calls) = (exit t, calls)

abbrev pub values_then : (Tree → ℕ → Values × ℕ) → Tested → Values × ℕ
values_then f (value t, calls) = f t calls
values_then f (rest p, calls) = (stopped (rest p), calls)
values_then f (exit t, calls) = (stopped (exit t), calls)

abbrev pub first_value : Tree → Values × ℕ → Values × ℕ
first_value t (v, calls) = (with_first t v, calls)

abbrev pub applied_to : ℕ → Operation → Values × ℕ → Tested
applied_to self op (all ts, calls) = guard_applied self op ts calls
applied_to self op (stopped r, calls) = (r, calls)

-- a connective, by the truth of its left side
abbrev pub connected : Option Bool → Connective → Tree → (ℕ → Tested) → ℕ → Tested
connected None c t right calls = (exit_by_pair (codes "badarg") t, calls)
connected (Some true) AndAlso t right calls = right calls
connected (Some true) OrElse t right calls = (value t, calls)
connected (Some false) AndAlso t right calls = (value t, calls)
connected (Some false) OrElse t right calls = right calls

abbrev mutual
  -- an expression of a guard, by the process that evaluates it, the bindings, and the calls before
  pub tested : ℕ → List Tree → Expr → ℕ → Tested
  tested self env (form.literal t) calls = (value t, calls)
  tested self env (form.variable index) calls = (bound_to (slice_get env index), calls)
  tested self env (form.apply op es) calls = applied_to self op (tested_row self env es calls)
  tested self env (form.match p body) calls = (no_guard, calls)
  tested self env (form.block body) calls = (no_guard, calls)
  tested self env (form.case subject cs) calls = (no_guard, calls)
  tested self env (form.short_circuit c left right) calls =
      tested_then (λ t behind. connected (truth_of t) c t (tested_alone self env right) behind) (tested_alone self env left calls)

  -- operands, from left to right
  pub tested_row : ℕ → List Tree → Exprs → ℕ → Values × ℕ
  tested_row self env form.none calls = (all term.none, calls)
  tested_row self env (form.more e es) calls =
      values_then (λ t behind. first_value t (tested_row self env es behind)) (tested self env e calls)

  -- a side of a connective: one expression
  pub tested_alone : ℕ → List Tree → Exprs → ℕ → Tested
  tested_alone self env form.none calls = (no_guard, calls)
  tested_alone self env (form.more e form.none) calls = tested self env e calls
  tested_alone self env (form.more e (form.more f es)) calls = (no_guard, calls)

-- whether a test holds: "it evaluates to true"; one that fails, for whatever reason, doesn't

abbrev pub is_true : Option Bool → Bool
is_true None = false
is_true (Some b) = b

abbrev pub holds : Result → Bool
holds (value t) = is_true (truth_of t)
holds (rest p) = false
holds (exit t) = false

-- "A guard is a sequence of guard expressions, separated by comma. The guard is true if all guard expressions evaluate to
-- true." The first that doesn't ends it.

abbrev pub and_then : Bool → ℕ → (ℕ → Bool × ℕ) → Bool × ℕ
and_then false calls others = (false, calls)
and_then true calls others = others calls

abbrev pub all_hold : ℕ → List Tree → Exprs → ℕ → Bool × ℕ
all_hold self env form.none calls = (true, calls)
all_hold self env (form.more e es) calls =
    and_then (holds (tested self env e calls).0) (tested self env e calls).1 (all_hold self env es)

-- "A guard sequence is a sequence of guards, separated by semicolon. The guard sequence is true if at least one of the guards
-- is true. (The remaining guards, if any, are not evaluated.)"

abbrev pub or_else : Bool × ℕ → (ℕ → Bool × ℕ) → Bool × ℕ
or_else (true, calls) others = (true, calls)
or_else (false, calls) others = others calls

abbrev pub one_holds : ℕ → List Tree → Guards → ℕ → Bool × ℕ
one_holds self env form.no_guards calls = (false, calls)
one_holds self env (form.guard tests gs) calls = or_else (all_hold self env tests calls) (one_holds self env gs)

-- a clause without a guard sequence is as one whose guard sequence is true
abbrev pub guarded : ℕ → List Tree → Guards → ℕ → Bool × ℕ
guarded self env form.no_guards calls = (true, calls)
guarded self env (form.guard tests gs) calls = one_holds self env (form.guard tests gs) calls

-- Clauses are tried in order: the first is selected whose patterns match and whose guard sequence is true. What is found is
-- what its patterns bind behind what is bound, and its body; beside it the calls that were made.

abbrev pub Selection : Type 0
Selection = Option (List Tree × Exprs) × ℕ

abbrev pub picked : Bool × ℕ → List Tree → Exprs → (ℕ → Selection) → Selection
picked (true, calls) env body others = (Some (env, body), calls)
picked (false, calls) env body others = others calls

abbrev pub picked_where : ℕ → Option (List Tree) → Guards → Exprs → (ℕ → Selection) → ℕ → Selection
picked_where self None gs body others calls = others calls
picked_where self (Some env) gs body others calls = picked (guarded self env gs calls) env body others

abbrev pub selected : ℕ → List Tree → Clauses → Trees → ℕ → Selection
selected self env form.no_clauses ts calls = (None, calls)
selected self env (form.clause ps gs body cs) ts calls =
    picked_where self (matched_each ps ts env) gs body (selected self env cs ts) calls
