-- The interface of a module: the functions that it exports, and the functions of other modules that it calls (Erlang Reference
-- Manual, Modules; Function Calls).
use Rattle.std.specs.Prelude.{ℕ, Bool, true, false, ◌&&◌, ◌||◌, ◌==◌, if◌then◌else◌, List, [], ◌∷◌, ◌++◌, codes, map}
use Rattle.std.specs.List.{flat_map, list_any}
use Rattle.std.specs.Str.{bytes_eq}
use Rattle.erl_ir.specs.declared.operation.BuiltIn.{BuiltIn}
use Rattle.erl_ir.specs.declared.operation.BuiltIn.TheVariants as built_in
use Rattle.erl_ir.specs.declared.operation.Operation.{Operation}
use Rattle.erl_ir.specs.declared.operation.Operation.TheVariants as operation
use Rattle.erl_ir.specs.declared.function.Definition.{Definition}
use Rattle.erl_ir.specs.declared.function.Definition.TheVariants as definition
use Rattle.erl_ir.specs.declared.function.Function.{Function}
use Rattle.erl_ir.specs.Expression as expression
use Rattle.erl_ir.specs.Expression.{Expr, Exprs, Guards, Clauses, expr_count}
use Rattle.erl_ir.specs.Module.{Forms, Key}
use Rattle.release_table.specs.declared.table.AppFiles.{AppFiles}
use Rattle.release_table.specs.declared.table.Release.{Release}
use Rattle.upgrade_review.specs.declared.interface.Call.{Call}
use Rattle.upgrade_review.specs.declared.interface.Interface.{Interface}

-- The calls of functions of other modules, one item a call, in the order of the source, in guards and in bodies. A built-in
-- function is on every node: its call is not among them, with its module or without, except gen_server:call/2 and call/3.

abbrev pub calls_of_built_in : BuiltIn → ℕ → List Call
calls_of_built_in built_in.Call arity = record { «module» = codes "gen_server"; function = codes "call"; arity = arity } ∷ []
calls_of_built_in _ arity = []

abbrev pub calls_by : Operation → ℕ → List Call
calls_by operation.Tuple arity = []
calls_by operation.List arity = []
calls_by operation.Cons arity = []
calls_by (operation.Operator o) arity = []
calls_by (operation.BuiltIn function qualified) arity = calls_of_built_in function arity
calls_by (operation.Local name) arity = []
calls_by (operation.Remote called name) arity = record { «module» = called; function = name; arity = arity } ∷ []

abbrev mutual
  pub calls_in : Expr → List Call
  calls_in (expression.literal t) = []
  calls_in (expression.variable index) = []
  calls_in (expression.apply op es) = calls_by op (expr_count es) ++ calls_in_row es
  calls_in (expression.match p body) = calls_in_row body
  calls_in (expression.block body) = calls_in_row body
  calls_in (expression.case subject cs) = calls_in_row subject ++ calls_in_clauses cs
  calls_in (expression.short_circuit connective left right) = calls_in_row left ++ calls_in_row right

  pub calls_in_row : Exprs → List Call
  calls_in_row expression.none = []
  calls_in_row (expression.more e es) = calls_in e ++ calls_in_row es

  pub calls_in_guards : Guards → List Call
  calls_in_guards expression.no_guards = []
  calls_in_guards (expression.guard tests gs) = calls_in_row tests ++ calls_in_guards gs

  pub calls_in_clauses : Clauses → List Call
  calls_in_clauses expression.no_clauses = []
  calls_in_clauses (expression.clause ps gs body cs) = calls_in_guards gs ++ calls_in_row body ++ calls_in_clauses cs

abbrev pub calls_in_definition : Definition → List Call
calls_in_definition (definition.Clauses cs) = calls_in_clauses cs
calls_in_definition (definition.Loop ps gs cs) = calls_in_guards gs ++ calls_in_clauses cs

abbrev pub calls_of : List (Key × Function) → List Call
calls_of [] = []
calls_of (f ∷ fs) = calls_in_definition f.1.definition ++ calls_of fs

-- The functions that are exported, in the order of the source.

abbrev pub exported_by : Key × Function → List Key
exported_by f = if f.1.exported then f.0 ∷ [] else []

abbrev pub exports_of : List (Key × Function) → List Key
exports_of [] = []
exports_of (f ∷ fs) = exported_by f ++ exports_of fs

-- The functions that serve processes and call gen_server:call themselves: callbacks of a gen_server that this node calls
-- (gen_server(3)), and loops.

abbrev pub is_server_call : Call → Bool
is_server_call k = bytes_eq k.«module» (codes "gen_server") && bytes_eq k.function (codes "call")

abbrev pub is_callback : Key → Bool
is_callback key = (key.1 == 1 && bytes_eq key.0 (codes "init"))
    || ((key.1 == 2 && (bytes_eq key.0 (codes "handle_cast") || bytes_eq key.0 (codes "handle_info")))
    || (key.1 == 3 && (bytes_eq key.0 (codes "handle_call") || bytes_eq key.0 (codes "code_change"))))

abbrev pub is_loop : Definition → Bool
is_loop (definition.Clauses cs) = false
is_loop (definition.Loop ps gs cs) = true

abbrev pub serves : Key × Function → Bool
serves f = (f.1.exported && is_callback f.0) || is_loop f.1.definition

abbrev pub asks : Definition → Bool
asks d = list_any is_server_call (calls_in_definition d)

abbrev pub asking_by : Key × Function → List Key
asking_by f = if serves f && asks f.1.definition then f.0 ∷ [] else []

abbrev pub asking_of : List (Key × Function) → List Key
asking_of [] = []
asking_of (f ∷ fs) = asking_by f ++ asking_of fs

-- The interface of a module of an application; those of the modules of an application; and those of a release, in its order.

abbrev pub interface_of : List ℕ → Forms → Interface
interface_of app c = record {
  application = app;
  name = c.name;
  exports = exports_of c.functions;
  calls = calls_of c.functions;
  asking = asking_of c.functions;
}

abbrev pub interfaces_in : AppFiles → List Interface
interfaces_in files = map (interface_of files.spec.name) files.modules

abbrev pub interfaces_of : Release → List Interface
interfaces_of r = flat_map interfaces_in r.apps
