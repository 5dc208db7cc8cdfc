-- Reading forms as a function of tokens: the form that tokens begin with, and what is left behind it, if they begin with one.
use Rattle.std.specs.Prelude.{ℕ, zero, suc, Bool, true, false, ◌==◌, nat_le, if◌then◌else◌, List, [], ◌∷◌, ◌++◌, length, codes}
use Rattle.std.specs.Prelude.{Option, None, Some}
use Rattle.std.specs.Str.{bytes_eq}
use Rattle.erl_scan.specs.declared.mark.Mark.TheVariants as marks
use Rattle.erl_ast.specs.declared.leaf.Named.{Named}
use Rattle.erl_ast.specs.declared.role.Role.TheVariants.{Expression, Pattern}
use Rattle.erl_ast.specs.declared.form.Exported.{Exported}
use Rattle.erl_ast.specs.declared.form.FunctionClause.{FunctionClause}
use Rattle.erl_ast.specs.declared.form.FormTree.{FormTree}
use Rattle.erl_ast.specs.declared.form.FormTree.TheVariants as forms
use Rattle.erl_ast.specs.declared.form.ModuleTree.{ModuleTree}
use Rattle.erl_ast.specs.Terminal.{Terminal, integer, atom}
use Rattle.erl_ast.specs.Tree.{Tree, Trees, Guards, none, more, tree_count}
use Rattle.erl_ast.specs.Grammar.{matches}
use Rattle.erl_ast.specs.Forms.{Attribute, module_name, export, version, unsupported, skipped, attribute, is_term, after_dot}
use Rattle.erl_expressions.specs.declared.delimiter.Delimiter.TheVariants.{Comma, Semicolon, Arrow, CloseParen, CloseBracket}
use Rattle.erl_expressions.specs.Delimiters.{after}
use Rattle.erl_expressions.specs.Reading.{Found, and_then, separated, parts, guarded, row, clauses_to_end, read}
use Rattle.module_forms.specs.declared.opening.Opening.TheVariants.{Minus, OpenParen, OpenBracket, Slash, Receive, Dot}
use Rattle.module_forms.specs.Openings.{behind}

-- an atom where it stands
abbrev pub named_ahead : List Terminal → Found Named
named_ahead (atom name at ∷ ts) = Some (record { name = name; at = at }, ts)
named_ahead ts = None

-- `).`
abbrev pub closed_form : List Terminal → Option (List Terminal)
closed_form ts = and_then (after CloseParen ts) (λ us. behind Dot us)

-- Exports

abbrev pub arity_ahead : Named → List Terminal → Found Exported
arity_ahead n (integer k ∷ ts) =
    if nat_le k 9223372036854775807 then Some (record { function = n; arity = k }, ts) else None
arity_ahead n ts = None

unfoldable pub entry : List Terminal → Found Exported
entry ts = and_then (named_ahead ts) (λ n. and_then (behind Slash n.1) (λ us. arity_ahead n.0 us))

-- these entries, where the bracket stands behind them
abbrev pub closed_entries : List Exported → List Terminal → Found (List Exported)
closed_entries es ts = and_then (after CloseBracket ts) (λ us. Some (es, us))

abbrev pub rest_of_entries : List Exported → List Exported × List Terminal → Found (List Exported)
rest_of_entries es f = closed_entries (es ++ f.0) f.1

unfoldable pub some_entries : List Terminal → Found (List Exported)
some_entries ts = and_then (separated Comma (length ts) entry ts) (rest_of_entries [])

abbrev pub entries_by : Option (List Terminal) → List Terminal → Found (List Exported)
entries_by (Some rest) ts = Some ([], rest)
entries_by None ts = some_entries ts

unfoldable pub exported : List Terminal → Found FormTree
exported ts =
    and_then (behind OpenParen ts) (λ a. and_then (behind OpenBracket a) (λ b.
    and_then (entries_by (after CloseBracket b) b) (λ f. and_then (closed_form f.1) (λ us. Some (forms.Export f.0, us)))))

-- `-vsn(T).`

abbrev pub version_form : Tree → List Terminal → Found FormTree
version_form t ts = if is_term t then and_then (closed_form ts) (λ us. Some (forms.Version (more t none), us)) else None

unfoldable pub versioned : List Terminal → Found FormTree
versioned ts = and_then (behind OpenParen ts) (λ a. and_then (read 256 Pattern matches a) (λ f. version_form f.0 f.1))

-- Functions

-- behind the name of a clause: its patterns, up to the closing parenthesis
abbrev pub head : List Terminal → Found Trees
head ts = and_then (behind OpenParen ts) (λ a. parts (read 256 Pattern matches) CloseParen a)

-- a head, a guard sequence and an arrow
unfoldable pub front : List Terminal → Found (Trees × Guards)
front ts =
    and_then (head ts) (λ f. and_then (guarded (read 256) f.1) (λ g. and_then (after Arrow g.1) (λ us. Some ((f.0, g.0), us))))

abbrev pub clause_of : ℕ → Trees → Guards → Trees → FunctionClause
clause_of at ps gs body = record { at = at; clause = record { patterns = ps; guard = gs; body = body } }

-- a clause behind its name
unfoldable pub one_clause : ℕ → List Terminal → Found FunctionClause
one_clause at ts =
    and_then (front ts) (λ f. and_then (row (read 256 Expression matches) f.1) (λ b. Some (clause_of at f.0.0 f.0.1 b.0, b.1)))

abbrev pub if_same : Bool → FunctionClause → List Terminal → Found FunctionClause
if_same true c ts = Some (c, ts)
if_same false c ts = None

-- a clause of a function of this name and so many arguments
unfoldable pub clause_like : List ℕ → ℕ → List Terminal → Found FunctionClause
clause_like name arity ts =
    and_then (named_ahead ts) (λ n. if bytes_eq n.0.name name then
    and_then (one_clause n.0.at n.1) (λ c. if_same (tree_count c.0.clause.patterns == arity) c.0 c.1) else None)

abbrev pub more_by : Option (List Terminal) → List Terminal → (List Terminal → Found FunctionClause) →
    (List Terminal → Found (List FunctionClause)) → Found (List FunctionClause)
more_by None ts one others = Some ([], ts)
more_by (Some us) ts one others = and_then (one us) (λ c. and_then (others c.1) (λ cs. Some (c.0 ∷ cs.0, cs.1)))

-- the other clauses of a function, in at most so many turns
abbrev pub clauses_like : ℕ → List ℕ → ℕ → List Terminal → Found (List FunctionClause)
clauses_like zero name arity ts = None
clauses_like (suc turns) name arity ts =
    more_by (after Semicolon ts) ts (clause_like name arity) (clauses_like turns name arity)

-- a function of these clauses, where a dot stands behind them
abbrev pub ended : List ℕ → List FunctionClause → List Terminal → Found FormTree
ended name cs ts = and_then (behind Dot ts) (λ us. Some (forms.Function (record { name = name; clauses = cs }), us))

abbrev pub rest_of_function : List ℕ → List FunctionClause → List FunctionClause × List Terminal → Found FormTree
rest_of_function name cs others = ended name (cs ++ others.0) others.1

unfoldable pub function_from : Named → FunctionClause → List Terminal → Found FormTree
function_from n c ts =
    and_then (clauses_like (suc (length ts)) n.name (tree_count c.clause.patterns) ts) (rest_of_function n.name (c ∷ []))

-- a loop function, behind its `receive`
unfoldable pub looped : Named → Trees → Guards → List Terminal → Found FormTree
looped n ps gs ts =
    and_then (clauses_to_end (read 255) ts) (λ cs. and_then (behind Dot cs.1) (λ us.
    Some (forms.Loop (record { name = n; patterns = ps; guard = gs; receive = cs.0 }), us)))

abbrev pub function_by : Option (List Terminal) → Named → Trees → Guards → List Terminal → Found FormTree
function_by (Some us) n ps gs ts = looped n ps gs us
function_by None n ps gs ts =
    and_then (row (read 256 Expression matches) ts) (λ b. function_from n (clause_of n.at ps gs b.0) b.1)

unfoldable pub function : Named → List Terminal → Found FormTree
function n ts = and_then (front ts) (λ f. function_by (behind Receive f.1) n f.0.0 f.0.1 f.1)

-- Forms

abbrev pub by_attribute : Attribute → List Terminal → Found FormTree
by_attribute module_name ts = None
by_attribute export ts = exported ts
by_attribute version ts = versioned ts
by_attribute unsupported ts = None
by_attribute skipped ts = and_then (after_dot ts) (λ us. Some (forms.Skipped, us))

abbrev pub form_by : Option (List Terminal) → List Terminal → Found FormTree
form_by (Some us) ts = and_then (named_ahead us) (λ n. by_attribute (attribute n.0.name) n.1)
form_by None ts = and_then (named_ahead ts) (λ n. function n.0 n.1)

unfoldable pub form : List Terminal → Found FormTree
form ts = form_by (behind Minus ts) ts

abbrev pub is_end : List Terminal → Bool
is_end [] = true
is_end (t ∷ ts) = false

abbrev pub forms_by : Bool → List FormTree → Option (FormTree × List Terminal) →
    (List FormTree → List Terminal → Option (List FormTree)) → Option (List FormTree)
forms_by true fs one go = Some fs
forms_by false fs one go = and_then one (λ f. go (fs ++ f.0 ∷ []) f.1)

-- forms up to the end, behind these, in at most so many turns
abbrev pub forms_from : ℕ → List FormTree → List Terminal → Option (List FormTree)
forms_from zero fs ts = None
forms_from (suc turns) fs ts = forms_by (is_end ts) fs (form ts) (forms_from turns)

-- forms up to the end
unfoldable pub all_forms : List Terminal → Option (List FormTree)
all_forms ts = forms_from (suc (length ts)) [] ts

-- `-module(M).`, and what is left
abbrev pub if_module : Bool → List Terminal → Found Named
if_module true ts = and_then (behind OpenParen ts)
    (λ a. and_then (named_ahead a) (λ n. and_then (closed_form n.1) (λ us. Some (n.0, us))))
if_module false ts = None

unfoldable pub module_head : List Terminal → Found Named
module_head ts = and_then (behind Minus ts) (λ a. and_then (named_ahead a)
    (λ w. if_module (bytes_eq w.0.name (codes "module")) w.1))

unfoldable pub whole_module : List Terminal → Option ModuleTree
whole_module ts =
    and_then (module_head ts) (λ m. and_then (all_forms m.1) (λ fs. Some (record { name = m.0; forms = fs })))
