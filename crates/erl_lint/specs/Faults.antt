-- The static faults of a module beside functions that are defined twice: variables that are not bound where they are used,
-- and local calls and exports of functions that there are not (Erlang Reference Manual, Expressions; Modules).
use Rattle.std.specs.Prelude.{ℕ, ◌&&◌, ◌||◌, not, if◌then◌else◌, List, [], ◌∷◌, ◌++◌}
use Rattle.erl_ast.specs.declared.leaf.Leaf.{Leaf}
use Rattle.erl_ast.specs.declared.leaf.Leaf.TheVariants as leaves
use Rattle.erl_ast.specs.declared.shape.Shape.{Shape}
use Rattle.erl_ast.specs.declared.shape.Shape.TheVariants as shapes
use Rattle.erl_ast.specs.declared.tree.ClauseTree.{ClauseTree}
use Rattle.erl_ast.specs.declared.form.Exported.{Exported}
use Rattle.erl_ast.specs.declared.form.FunctionClause.{FunctionClause}
use Rattle.erl_ast.specs.declared.form.LoopTree.{LoopTree}
use Rattle.erl_ast.specs.declared.form.FormTree.{FormTree}
use Rattle.erl_ast.specs.declared.form.FormTree.TheVariants as forms
use Rattle.erl_ast.specs.declared.form.ModuleTree.{ModuleTree}
use Rattle.erl_ast.specs.Tree.{Tree, Trees, Guards, Clauses, tree_count}
use Rattle.erl_ast.specs.Tree.{leaf, node, case, none, more, no_guards, guard, no_clauses, clause}
use Rattle.erl_lint.specs.declared.fault.StaticFault.{StaticFault}
use Rattle.erl_lint.specs.declared.fault.StaticFault.TheVariants.{UnboundVariable, UndefinedLocal}
use Rattle.erl_lint.specs.declared.scoping.Scoping.{Scoping}
use Rattle.erl_lint.specs.Keys.{Key, is_among, is_built_in, with_forms, duplicates}
use Rattle.erl_lint.specs.Scopes.{Names, is_bound, with_names, pattern_names_in, binds, binds_in, scoping_of, by_scoping}

-- a variable that is used has to be bound; `_` never is, since no pattern binds it
abbrev pub leaf_faults : Names → Leaf → List StaticFault
leaf_faults bound (leaves.Variable name at) = if is_bound bound name then [] else UnboundVariable at ∷ []
leaf_faults bound l = []

-- a local call calls a function of the module, or one that is built in
abbrev pub call_faults : List Key → Shape → ℕ → List StaticFault
call_faults functions (shapes.Local f) n =
    if is_among functions (f.name, n) || is_built_in (f.name, n) then [] else UndefinedLocal f.at ∷ []
call_faults functions shape n = []

-- The faults of an expression or of a test, in a module with these functions and where these variables are bound. Calls
-- with a module are not looked at.
abbrev mutual
  pub faults_in : List Key → Names → Tree → List StaticFault
  faults_in functions bound (leaf l) = leaf_faults bound l
  faults_in functions bound (node shape ts) =
      call_faults functions shape (tree_count ts) ++
      by_scoping (scoping_of shape) (faults_apart functions bound ts) (faults_in_turn functions bound ts)
      (faults_behind functions bound ts) (faults_in_turn functions bound ts)
  faults_in functions bound (case subject cs) =
      faults_apart functions bound subject ++ faults_in_clauses functions (with_names bound (binds_in subject)) cs

  -- each sees nothing of what the others bind
  pub faults_apart : List Key → Names → Trees → List StaticFault
  faults_apart functions bound none = []
  faults_apart functions bound (more t ts) = faults_in functions bound t ++ faults_apart functions bound ts

  -- each sees what those before it bind
  pub faults_in_turn : List Key → Names → Trees → List StaticFault
  faults_in_turn functions bound none = []
  faults_in_turn functions bound (more t ts) =
      faults_in functions bound t ++ faults_in_turn functions (with_names bound (binds t)) ts

  -- Those behind a pattern. A pattern has no fault: it has no calls, and a variable in it that is bound is compared.
  pub faults_behind : List Key → Names → Trees → List StaticFault
  faults_behind functions bound none = []
  faults_behind functions bound (more p es) = faults_apart functions bound es

  pub faults_in_guards : List Key → Names → Guards → List StaticFault
  faults_in_guards functions bound no_guards = []
  faults_in_guards functions bound (guard tests gs) =
      faults_apart functions bound tests ++ faults_in_guards functions bound gs

  -- The patterns of a clause bind their variables for its guard and its body; no clause sees what another one binds.
  pub faults_in_clauses : List Key → Names → Clauses → List StaticFault
  faults_in_clauses functions bound no_clauses = []
  faults_in_clauses functions bound (clause ps gs body cs) =
      faults_in_guards functions (with_names bound (pattern_names_in ps)) gs ++
      faults_in_turn functions (with_names bound (pattern_names_in ps)) body ++ faults_in_clauses functions bound cs

-- what the parts of an expression give
abbrev pub faults_in_parts : List Key → Names → Scoping → Trees → List StaticFault
faults_in_parts functions bound scoping ts =
    by_scoping scoping (faults_apart functions bound ts) (faults_in_turn functions bound ts)
    (faults_behind functions bound ts) (faults_in_turn functions bound ts)

-- what one clause gives
abbrev pub faults_in_clause : List Key → Names → ClauseTree → List StaticFault
faults_in_clause functions bound c =
    faults_in_guards functions (with_names bound (pattern_names_in c.patterns)) c.guard ++
    faults_in_turn functions (with_names bound (pattern_names_in c.patterns)) c.body

-- the clauses of a function: nothing is bound before the head of one
abbrev pub faults_in_function : List Key → List FunctionClause → List StaticFault
faults_in_function functions [] = []
faults_in_function functions (c ∷ cs) = faults_in_clause functions [] c.clause ++ faults_in_function functions cs

-- the clauses of a loop function's `receive` see what its head binds
abbrev pub faults_in_loop : List Key → LoopTree → List StaticFault
faults_in_loop functions l =
    faults_in_guards functions (with_names [] (pattern_names_in l.patterns)) l.guard ++
    faults_in_clauses functions (with_names [] (pattern_names_in l.patterns)) l.receive

-- only functions of the module are exported, and none that is built in
abbrev pub export_faults : List Key → Exported → List StaticFault
export_faults functions e =
    if is_among functions (e.function.name, e.arity) && not (is_built_in (e.function.name, e.arity)) then [] else
    UndefinedLocal e.function.at ∷ []

abbrev pub exports_faults : List Key → List Exported → List StaticFault
exports_faults functions [] = []
exports_faults functions (e ∷ es) = export_faults functions e ++ exports_faults functions es

abbrev pub faults_in_form : List Key → FormTree → List StaticFault
faults_in_form functions (forms.Export es) = exports_faults functions es
faults_in_form functions (forms.Function f) = faults_in_function functions f.clauses
faults_in_form functions (forms.Loop l) = faults_in_loop functions l
faults_in_form functions form = []

abbrev pub faults_in_forms : List Key → List FormTree → List StaticFault
faults_in_forms functions [] = []
faults_in_forms functions (form ∷ fs) = faults_in_form functions form ++ faults_in_forms functions fs

-- the functions of a module, each once
abbrev pub functions_of : ModuleTree → List Key
functions_of m = with_forms [] m.forms

-- all static faults of a module
abbrev pub faults_of : ModuleTree → List StaticFault
faults_of m = duplicates [] m.forms ++ faults_in_forms (functions_of m) m.forms
