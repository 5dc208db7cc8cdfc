-- A module as its source says, as contracts see it (Erlang Reference Manual, Modules).
use Rattle.std.specs.Prelude.{◌≡◌, ◌↔◌, ℕ, ◌+◌, max, ◌==◌, Bool, ◌&&◌, if◌then◌else◌}
use Rattle.std.specs.Prelude.{List, [], ◌∷◌, ◌++◌, codes, Any, Option, None, Some, option_and_then}
use Rattle.std.specs.List.{IsDistinct}
use Rattle.std.specs.Map.{lookup}
use Rattle.std.specs.Str.{bytes_eq}
use Rattle.erl_term.specs.declared.term.Term.{Term}
use Rattle.erl_ir.specs.declared.operation.BuiltIn.{BuiltIn}
use Rattle.erl_ir.specs.declared.operation.BuiltIn.TheVariants.{Cast, Reply, Call, StartLink, Reverse, Member}
use Rattle.erl_ir.specs.declared.operation.BuiltIn.TheVariants.{ProcLibSpawnLink}
use Rattle.erl_ir.specs.declared.operation.Operation.{Operation}
use Rattle.erl_ir.specs.declared.operation.Operation.TheVariants as operation
use Rattle.erl_ir.specs.declared.function.Definition.{Definition}
use Rattle.erl_ir.specs.declared.function.Definition.TheVariants as definition
use Rattle.erl_ir.specs.declared.function.Function.{Function}
use Rattle.erl_ir.specs.Pattern.{pats_depth}
use Rattle.erl_ir.specs.Expression as expression
use Rattle.erl_ir.specs.Expression.{Expr, Exprs, Guards, Clauses, guards_depth, clauses_depth}

-- what a function is called by: its name, and how many arguments it has
abbrev pub Key : Type 0
Key = List ℕ × ℕ

abbrev pub key_eq : Key → Key → Bool
key_eq a b = bytes_eq a.0 b.0 && (a.1 == b.1)

-- A module: its name, the term of its attribute `-vsn`, if it has one, and its functions in the order of the source.
-- Blanks, comments and offsets in the source are no part of it.
pub record Forms : Type 0 where
  pub name : List ℕ
  pub vsn : Option Term
  pub functions : List (Key × Function)

-- the function of a name and a number of arguments
abbrev pub function_of : List ℕ → ℕ → Forms → Option Function
function_of name arity m = lookup (key_eq (name, arity)) m.functions

-- a function, where the module exports it
abbrev pub if_exported : Function → Option Function
if_exported f = if f.exported then Some f else None

-- the function of a name and a number of arguments that the module exports
abbrev pub exported_of : List ℕ → ℕ → Forms → Option Function
exported_of name arity m = option_and_then if_exported (function_of name arity m)

-- How deep a module is nested: the greatest depth of what its functions are made of.

abbrev pub definition_depth : Definition → ℕ
definition_depth (definition.Clauses cs) = clauses_depth cs
definition_depth (definition.Loop ps gs cs) = max (max (pats_depth ps) (guards_depth gs)) (1 + clauses_depth cs)

abbrev pub functions_depth : List (Key × Function) → ℕ
functions_depth [] = 0
functions_depth (f ∷ fs) = max (definition_depth f.1.definition) (functions_depth fs)

-- The modules that are named in remote calls, call by call, in the order of the source. A call counts in a guard as in a
-- body.

-- the module of a function that is built in
abbrev pub module_of : BuiltIn → List ℕ
module_of Cast = codes "gen_server"
module_of Reply = codes "gen_server"
module_of Call = codes "gen_server"
module_of StartLink = codes "gen_server"
module_of Reverse = codes "lists"
module_of Member = codes "lists"
module_of ProcLibSpawnLink = codes "proc_lib"
module_of _ = codes "erlang"

abbrev pub called_by : Operation → List (List ℕ)
called_by operation.Tuple = []
called_by operation.List = []
called_by operation.Cons = []
called_by (operation.Operator o) = []
called_by (operation.BuiltIn function qualified) = if qualified then module_of function ∷ [] else []
called_by (operation.Local name) = []
called_by (operation.Remote called name) = called ∷ []

abbrev mutual
  pub called_in : Expr → List (List ℕ)
  called_in (expression.literal t) = []
  called_in (expression.variable index) = []
  called_in (expression.apply op es) = called_by op ++ called_in_row es
  called_in (expression.match p body) = called_in_row body
  called_in (expression.block body) = called_in_row body
  called_in (expression.case subject cs) = called_in_row subject ++ called_in_clauses cs
  called_in (expression.short_circuit connective left right) = called_in_row left ++ called_in_row right

  pub called_in_row : Exprs → List (List ℕ)
  called_in_row expression.none = []
  called_in_row (expression.more e es) = called_in e ++ called_in_row es

  pub called_in_guards : Guards → List (List ℕ)
  called_in_guards expression.no_guards = []
  called_in_guards (expression.guard tests gs) = called_in_row tests ++ called_in_guards gs

  pub called_in_clauses : Clauses → List (List ℕ)
  called_in_clauses expression.no_clauses = []
  called_in_clauses (expression.clause ps gs body cs) = called_in_guards gs ++ called_in_row body ++ called_in_clauses cs

abbrev pub called_in_definition : Definition → List (List ℕ)
called_in_definition (definition.Clauses cs) = called_in_clauses cs
called_in_definition (definition.Loop ps gs cs) = called_in_guards gs ++ called_in_clauses cs

abbrev pub called_in_functions : List (Key × Function) → List (List ℕ)
called_in_functions [] = []
called_in_functions (f ∷ fs) = called_in_definition f.1.definition ++ called_in_functions fs

-- these names, each once
pub record AreNamesOf (names all : List (List ℕ)) : Type 0 where
  pub once : IsDistinct bytes_eq names
  pub same : (name : List ℕ) → Any (λ n. n ≡ name) names ↔ Any (λ n. n ≡ name) all
