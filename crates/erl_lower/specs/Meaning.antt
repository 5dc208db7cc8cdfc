-- What a module means that is written as a tree (Erlang Reference Manual, Modules; Functions).
use Rattle.std.specs.Prelude.{◌≡◌, ℕ, List, [], ◌∷◌, ◌++◌, Option, None, Some, option_map}
use Rattle.std.specs.Option.{option_to_list}
use Rattle.std.specs.List.{IsDistinct}
use Rattle.std.specs.Map.{keys_of}
use Rattle.indexmap.specs.IndexSet.{insert_all}
use Rattle.erl_term.specs.Term.{term_of}
use Rattle.erl_term.specs.Tree as term
use Rattle.erl_ast.specs.declared.form.Exported.{Exported}
use Rattle.erl_ast.specs.declared.form.FunctionClause.{FunctionClause}
use Rattle.erl_ast.specs.declared.form.LoopTree.{LoopTree}
use Rattle.erl_ast.specs.declared.form.FormTree.{FormTree}
use Rattle.erl_ast.specs.declared.form.FormTree.TheVariants as forms
use Rattle.erl_ast.specs.declared.form.ModuleTree.{ModuleTree}
use Rattle.erl_ast.specs.Tree.{Trees, none, more, tree_count}
use Rattle.erl_lint.specs.Keys.{is_among}
use Rattle.erl_lint.specs.Scopes.{pattern_names_in, with_names}
use Rattle.erl_ir.specs.declared.function.Definition.{Definition}
use Rattle.erl_ir.specs.declared.function.Definition.TheVariants as definition
use Rattle.erl_ir.specs.declared.function.Function.{Function}
use Rattle.erl_ir.specs.Expression.{Clauses, no_clauses, clause}
use Rattle.erl_ir.specs.Module.{Forms, Key, key_eq}
use Rattle.erl_lower.specs.Literals.{term_in}
use Rattle.erl_lower.specs.Patterns.{patterns_of}
use Rattle.erl_lower.specs.Expressions.{clauses_of, guards_of, row_of}

-- The term of `-vsn(T)`, and of several the first

abbrev pub first_term : List ℕ → Trees → term.Tree
first_term own none = term.list term.none
first_term own (more t ts) = term_in own t

abbrev pub version_of : List ℕ → FormTree → Option term.Tree
version_of own (forms.Version ts) = Some (first_term own ts)
version_of own form = None

abbrev pub first_of : {A : Type 0} → Option A → Option A → Option A
first_of None b = b
first_of (Some a) b = Some a

abbrev pub version_in : List ℕ → List FormTree → Option term.Tree
version_in own [] = None
version_in own (f ∷ fs) = first_of (version_of own f) (version_in own fs)

-- Exports: a function is exported that stands in any `-export`.

abbrev pub entries_of : List Exported → List Key
entries_of [] = []
entries_of (e ∷ es) = (e.function.name, e.arity) ∷ entries_of es

abbrev pub entries_of_form : FormTree → List Key
entries_of_form (forms.Export es) = entries_of es
entries_of_form form = []

abbrev pub entries_in : List FormTree → List Key
entries_in [] = []
entries_in (f ∷ fs) = entries_of_form f ++ entries_in fs

-- the exported ones of a module with these forms, each once
abbrev pub exports_of : List FormTree → List Key
exports_of fs = insert_all key_eq [] (entries_in fs)

-- Functions. Nothing is bound before the head of a clause; the clauses of a loop function's `receive` see what its head binds.

abbrev pub function_clauses : List ℕ → List FunctionClause → Clauses
function_clauses own [] = no_clauses
function_clauses own (c ∷ cs) =
    clause (patterns_of own [] c.clause.patterns)
    (guards_of own (with_names [] (pattern_names_in c.clause.patterns)) c.clause.guard)
    (row_of own (with_names [] (pattern_names_in c.clause.patterns)) c.clause.body) (function_clauses own cs)

abbrev pub loop_of : List ℕ → LoopTree → Definition
loop_of own l =
    definition.Loop (patterns_of own [] l.patterns) (guards_of own (with_names [] (pattern_names_in l.patterns)) l.guard)
    (clauses_of own (with_names [] (pattern_names_in l.patterns)) l.receive)

-- what a function is called by: it has as many arguments as its first clause has patterns
abbrev pub key_of : List ℕ → List FunctionClause → Key
key_of name [] = (name, 0)
key_of name (c ∷ cs) = (name, tree_count c.clause.patterns)

abbrev pub function_with : List Key → Key → Definition → Key × Function
function_with exports key d = (key, record { exported = is_among exports key; definition = d })

-- the function that a form defines, if it defines one
abbrev pub function_of : List ℕ → List Key → FormTree → Option (Key × Function)
function_of own exports (forms.Function f) =
    Some (function_with exports (key_of f.name f.clauses) (definition.Clauses (function_clauses own f.clauses)))
function_of own exports (forms.Loop l) = Some (function_with exports (l.name.name, tree_count l.patterns) (loop_of own l))
function_of own exports form = None

-- those of forms, in the order of the source
abbrev pub functions_in : List ℕ → List Key → List FormTree → List (Key × Function)
functions_in own exports [] = []
functions_in own exports (f ∷ fs) = option_to_list (function_of own exports f) ++ functions_in own exports fs

-- What a tree means: a name, the term of `-vsn`, and functions.
abbrev pub meaning : ModuleTree → Forms
meaning m = record {
  name = m.name.name;
  vsn = option_map term_of (version_in m.name.name m.forms);
  functions = functions_in m.name.name (exports_of m.forms) m.forms;
}

-- A module has one function of a name and a number of arguments: a tree that has two means none.

abbrev pub HasNoMeaning : ModuleTree → Type 0
HasNoMeaning tree = IsDistinct key_eq (keys_of (meaning tree).functions) → ⊥

abbrev pub IsMeaning : ModuleTree → Forms → Type 0
IsMeaning tree m = IsDistinct key_eq (keys_of (meaning tree).functions) × (m ≡ meaning tree)
