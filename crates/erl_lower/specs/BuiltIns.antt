-- Which function a call calls: one that is built in, by its module, its name and the number of its arguments, or another
-- one (erlang(3), gen_server(3), lists(3), proc_lib(3)).
use Rattle.std.specs.Prelude.{ℕ, ◌==◌, true, false, if◌then◌else◌, List, [], ◌∷◌, codes, Option, None, Some}
use Rattle.std.specs.Str.{bytes_eq}
use Rattle.erl_ir.specs.declared.operation.BuiltIn.{BuiltIn}
use Rattle.erl_ir.specs.declared.operation.BuiltIn.TheVariants as built_in
use Rattle.erl_ir.specs.declared.operation.Operation.{Operation}
use Rattle.erl_ir.specs.declared.operation.Operation.TheVariants as operation

-- functions by their names
abbrev pub Named : Type 0
Named = List (List ℕ × BuiltIn)

-- the function of a name, if there is one
abbrev pub named : Named → List ℕ → Option BuiltIn
named [] name = None
named (f ∷ fs) name = if bytes_eq name f.0 then Some f.1 else named fs name

-- The functions of `erlang`, by the number of their arguments. They may be called without their module.

abbrev pub nullary : Named
nullary = (codes "self", built_in.SelfPid) ∷ []

abbrev pub unary : Named
unary =
    (codes "abs", built_in.Abs) ∷ (codes "error", built_in.Error) ∷ (codes "exit", built_in.Exit) ∷
    (codes "hd", built_in.Hd) ∷ (codes "is_atom", built_in.IsAtom) ∷ (codes "is_boolean", built_in.IsBoolean) ∷
    (codes "is_integer", built_in.IsInteger) ∷ (codes "is_list", built_in.IsList) ∷ (codes "is_pid", built_in.IsPid) ∷
    (codes "is_tuple", built_in.IsTuple) ∷ (codes "length", built_in.Length) ∷ (codes "tl", built_in.Tl) ∷
    (codes "tuple_size", built_in.TupleSize) ∷ []

abbrev pub binary : Named
binary = (codes "element", built_in.Element) ∷ (codes "register", built_in.Register) ∷ []

abbrev pub ternary : Named
ternary = (codes "setelement", built_in.SetElement) ∷ (codes "spawn", built_in.Spawn) ∷
    (codes "spawn_link", built_in.SpawnLink) ∷ []

abbrev pub erlang_function : List ℕ → ℕ → Option BuiltIn
erlang_function name n =
    if n == 0 then named nullary name else
    (if n == 1 then named unary name else
    (if n == 2 then named binary name else (if n == 3 then named ternary name else None)))

abbrev pub gen_server_function : List ℕ → ℕ → Option BuiltIn
gen_server_function name n =
    if n == 2 then named
    ((codes "call", built_in.Call) ∷ (codes "cast", built_in.Cast) ∷ (codes "reply", built_in.Reply) ∷ []) name else
    (if n == 3 then named ((codes "call", built_in.Call) ∷ (codes "start_link", built_in.StartLink) ∷ []) name else
    (if n == 4 then named ((codes "start_link", built_in.StartLink) ∷ []) name else None))

abbrev pub lists_function : List ℕ → ℕ → Option BuiltIn
lists_function name n =
    if n == 1 then named ((codes "reverse", built_in.Reverse) ∷ []) name else
    (if n == 2 then named ((codes "member", built_in.Member) ∷ []) name else None)

abbrev pub proc_lib_function : List ℕ → ℕ → Option BuiltIn
proc_lib_function name n = if n == 3 then named ((codes "spawn_link", built_in.ProcLibSpawnLink) ∷ []) name else None

-- the function of a module that is built in
abbrev pub function_in : List ℕ → List ℕ → ℕ → Option BuiltIn
function_in called name n =
    if bytes_eq called (codes "erlang") then erlang_function name n else
    (if bytes_eq called (codes "gen_server") then gen_server_function name n else
    (if bytes_eq called (codes "lists") then lists_function name n else
    (if bytes_eq called (codes "proc_lib") then proc_lib_function name n else None)))

abbrev pub plainly : Option BuiltIn → List ℕ → Operation
plainly (Some f) name = operation.BuiltIn f false
plainly None name = operation.Local name

-- what the call `f(E1,..,En)` is
abbrev pub local_call : List ℕ → ℕ → Operation
local_call name n = plainly (erlang_function name n) name

abbrev pub with_module : Option BuiltIn → List ℕ → List ℕ → Operation
with_module (Some f) called name = operation.BuiltIn f true
with_module None called name = operation.Remote called name

-- what the call `m:f(E1,..,En)` is
abbrev pub remote_call : List ℕ → List ℕ → ℕ → Operation
remote_call called name n = with_module (function_in called name n) called name
