-- Functions by their names and numbers of arguments, and those of a module (Erlang Reference Manual, Functions).
use Rattle.std.specs.Prelude.{ℕ, ◌==◌, Bool, ◌&&◌, ◌||◌, if◌then◌else◌, List, [], ◌∷◌, ◌++◌, codes, Option, None, Some, fold}
use Rattle.std.specs.List.{list_any}
use Rattle.std.specs.Str.{bytes_eq}
use Rattle.indexmap.specs.IndexSet.{insert_key}
use Rattle.erl_ast.specs.declared.form.FormTree.{FormTree}
use Rattle.erl_ast.specs.declared.form.FormTree.TheVariants as forms
use Rattle.erl_ast.specs.declared.form.FunctionClause.{FunctionClause}
use Rattle.erl_ast.specs.Functions.{arity_among, is_arity, is_guard_function}
use Rattle.erl_ast.specs.Tree.{tree_count}
use Rattle.erl_lint.specs.declared.fault.StaticFault.{StaticFault}
use Rattle.erl_lint.specs.declared.fault.StaticFault.TheVariants.{DuplicateFunction}
use Rattle.erl_lint.specs.declared.functions.Heading.{Heading}

-- what a function is called by: its name, and how many arguments it has
abbrev pub Key : Type 0
Key = List ℕ × ℕ

abbrev pub key_eq : Key → Key → Bool
key_eq a b = bytes_eq a.0 b.0 && (a.1 == b.1)

-- whether a function is among these
abbrev pub is_among : List Key → Key → Bool
is_among functions key = list_any (key_eq key) functions

-- functions that are built in and may be called plainly in bodies, and in no guard
abbrev pub body_functions : List (List ℕ × ℕ)
body_functions =
    (codes "setelement", 3) ∷ (codes "exit", 1) ∷ (codes "error", 1) ∷ (codes "spawn", 3) ∷ (codes "spawn_link", 3) ∷
    (codes "register", 2) ∷ []

abbrev pub body_arity : List ℕ → Option ℕ
body_arity name = arity_among body_functions name

-- whether a function is built in and may be called plainly (Erlang Reference Manual, Built-In Functions)
abbrev pub is_built_in : Key → Bool
is_built_in key = is_guard_function key.0 key.1 || is_arity (body_arity key.0) key.1

-- What a form defines: a function has as many arguments as its first clause has patterns, and it stands where that clause's
-- name stands. What has no clause defines nothing, nor do attributes.

abbrev pub heading_among : List ℕ → List FunctionClause → Option Heading
heading_among name [] = None
heading_among name (c ∷ cs) = Some (record { key = (name, tree_count c.clause.patterns); at = c.at })

abbrev pub heading_of : FormTree → Option Heading
heading_of (forms.Function f) = heading_among f.name f.clauses
heading_of (forms.Loop l) = Some (record { key = (l.name.name, tree_count l.patterns); at = l.name.at })
heading_of form = None

-- functions, each once, with one more that a form defines
abbrev pub with_heading : List Key → Option Heading → List Key
with_heading functions None = functions
with_heading functions (Some h) = insert_key key_eq functions h.key

abbrev pub with_form : List Key → FormTree → List Key
with_form functions form = with_heading functions (heading_of form)

-- the functions of forms, each once, behind these
abbrev pub with_forms : List Key → List FormTree → List Key
with_forms functions fs = fold with_form functions fs

-- A function may not have the name and the number of arguments of an earlier one, nor of one that is built in.

abbrev pub heading_faults : List Key → Option Heading → List StaticFault
heading_faults earlier None = []
heading_faults earlier (Some h) = if is_among earlier h.key || is_built_in h.key then DuplicateFunction h.at ∷ [] else []

-- the faults of this kind, where these functions stand before the forms
abbrev pub duplicates : List Key → List FormTree → List StaticFault
duplicates earlier [] = []
duplicates earlier (form ∷ fs) = heading_faults earlier (heading_of form) ++ duplicates (with_form earlier form) fs
