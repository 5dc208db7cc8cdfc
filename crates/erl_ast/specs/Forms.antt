-- How a module is written: its forms (Erlang Reference Manual, Modules; erl_parse.yrl of OTP 25).
use Rattle.std.specs.Prelude.{◌≡◌, ℕ, ◌≤◌, nat_le, Bool, true, false, ◌&&◌, ◌||◌, if◌then◌else◌, IsTrue, ⊤, List, [], ◌∷◌, length, codes}
use Rattle.std.specs.Prelude.{Option, None, Some}
use Rattle.std.specs.Str.{bytes_eq}
use Rattle.erl_scan.specs.declared.mark.Mark.TheVariants as marks
use Rattle.erl_scan.specs.declared.word.Word.TheVariants as words
use Rattle.erl_ast.specs.declared.leaf.Leaf.TheVariants as leaves
use Rattle.erl_ast.specs.declared.role.Role.TheVariants.{Expression, Pattern}
use Rattle.erl_ast.specs.declared.shape.Shape.TheVariants as shapes
use Rattle.erl_ast.specs.declared.form.Exported.{Exported}
use Rattle.erl_ast.specs.declared.form.FunctionClause.{FunctionClause}
use Rattle.erl_ast.specs.declared.form.FunctionTree.{FunctionTree}
use Rattle.erl_ast.specs.declared.form.LoopTree.{LoopTree}
use Rattle.erl_ast.specs.declared.form.FormTree.{FormTree}
use Rattle.erl_ast.specs.declared.form.FormTree.TheVariants as forms
use Rattle.erl_ast.specs.declared.form.ModuleTree.{ModuleTree}
use Rattle.erl_ast.specs.Terminal.{Terminal, integer, atom, word, mark, dot}
use Rattle.erl_ast.specs.Tree.{Tree, Trees, leaf, node, case, none, more, tree_count, tree_depth, trees_depth, guards_depth, clauses_depth}
use Rattle.erl_ast.specs.Written.{written, row_written, guards_written, clauses_written}
use Rattle.erl_ast.specs.Grammar.{matches, level, IsWell, AreWell, AreWellGuards, AreWellClauses, has_clause}

-- Attributes, by their names

pub data Attribute : Type 0 where
  module_name : Attribute
  export : Attribute
  version : Attribute
  -- Erlang has these, but they are not read here
  unsupported : Attribute
  -- all others, which say nothing here
  skipped : Attribute

abbrev pub is_among : List (List ℕ) → List ℕ → Bool
is_among [] name = false
is_among (n ∷ ns) name = bytes_eq name n || is_among ns name

abbrev pub unsupported_names : List (List ℕ)
unsupported_names =
    codes "define" ∷ codes "undef" ∷ codes "include" ∷ codes "include_lib" ∷ codes "record" ∷ codes "import" ∷ codes "ifdef" ∷
    codes "ifndef" ∷ codes "elif" ∷ codes "else" ∷ codes "endif" ∷ []

abbrev pub attribute : List ℕ → Attribute
attribute name =
    if bytes_eq name (codes "module") then module_name else
    (if bytes_eq name (codes "export") then export else
    (if bytes_eq name (codes "vsn") then version else
    (if is_among unsupported_names name then unsupported else skipped)))

-- `-module(M).`, and what follows
abbrev pub module_written : List ℕ → ℕ → ℕ → List Terminal → List Terminal
module_written name at word_at rest =
    mark marks.Minus ∷ atom (codes "module") word_at ∷ mark marks.OpenParen ∷ atom name at ∷ mark marks.CloseParen ∷ dot ∷ rest

-- `F/A`, with commas between them
abbrev pub entry_written : Exported → List Terminal → List Terminal
entry_written e rest = atom e.function.name e.function.at ∷ mark marks.Divide ∷ integer e.arity ∷ rest

abbrev mutual
  pub entries_written : List Exported → List Terminal → List Terminal
  entries_written [] rest = rest
  entries_written (e ∷ es) rest = entry_written e (other_entries_written es rest)

  pub other_entries_written : List Exported → List Terminal → List Terminal
  other_entries_written [] rest = rest
  other_entries_written (e ∷ es) rest = mark marks.Comma ∷ entry_written e (other_entries_written es rest)

abbrev pub are_arities : List Exported → Bool
are_arities [] = true
are_arities (e ∷ es) = nat_le e.arity 9223372036854775807 && are_arities es

-- A term: literals, tuples and lists; a list's tail is a list.

abbrev pub is_list : Tree → Bool
is_list (leaf (leaves.Strings ss)) = true
is_list (node shapes.List ts) = true
is_list (node shapes.Cons ts) = true
is_list t = false

abbrev pub ends_with_list : Trees → Bool
ends_with_list none = true
ends_with_list (more t none) = is_list t
ends_with_list (more t (more u us)) = ends_with_list (more u us)

abbrev mutual
  pub is_term : Tree → Bool
  is_term (leaf (leaves.Variable name at)) = false
  is_term (leaf (leaves.ModuleName at)) = false
  is_term (leaf l) = true
  is_term (node shapes.Tuple ts) = are_terms ts
  is_term (node shapes.List ts) = are_terms ts
  is_term (node shapes.Cons ts) = are_terms ts && ends_with_list ts
  is_term (node shape ts) = false
  is_term (case subject cs) = false

  pub are_terms : Trees → Bool
  are_terms none = true
  are_terms (more t ts) = is_term t && are_terms ts

abbrev pub is_dot : Terminal → Bool
is_dot dot = true
is_dot t = false

-- what is left behind the first dot
abbrev pub after_dot : List Terminal → Option (List Terminal)
after_dot [] = None
after_dot (t ∷ ts) = if is_dot t then Some ts else after_dot ts

-- Functions

-- `f(P1,..,Pn)`
abbrev pub head_written : List ℕ → ℕ → Trees → List Terminal → List Terminal
head_written name at ps rest = atom name at ∷ mark marks.OpenParen ∷ row_written ps (mark marks.CloseParen ∷ rest)

-- the clauses of a function, with semicolons between them
abbrev pub clause_written : List ℕ → FunctionClause → List Terminal → List Terminal
clause_written name c rest =
    head_written name c.at c.clause.patterns (guards_written c.clause.guard (mark marks.Arrow ∷ row_written c.clause.body rest))

abbrev mutual
  pub function_written : List ℕ → List FunctionClause → List Terminal → List Terminal
  function_written name [] rest = rest
  function_written name (c ∷ cs) rest = clause_written name c (other_function_written name cs rest)

  pub other_function_written : List ℕ → List FunctionClause → List Terminal → List Terminal
  other_function_written name [] rest = rest
  other_function_written name (c ∷ cs) rest = mark marks.Semicolon ∷ clause_written name c (other_function_written name cs rest)

-- A clause with so many patterns, nested at most 256 deep
pub record IsFunctionClause (arity : ℕ) (c : FunctionClause) : Type 0 where
  pub has_arity : tree_count c.clause.patterns ≡ arity
  pub are_patterns : AreWell Pattern matches c.clause.patterns
  pub are_guards : AreWellGuards c.clause.guard
  pub has_body : 1 ≤ tree_count c.clause.body
  pub is_body : AreWell Expression matches c.clause.body
  pub patterns_deep : trees_depth c.clause.patterns ≤ 256
  pub guards_deep : guards_depth c.clause.guard ≤ 256
  pub body_deep : trees_depth c.clause.body ≤ 256

abbrev pub AreClauses : ℕ → List FunctionClause → Type 0
AreClauses arity [] = ⊤
AreClauses arity (c ∷ cs) = IsFunctionClause arity c × AreClauses arity cs

-- one clause or more, which have as many patterns
abbrev pub IsFunction : List FunctionClause → Type 0
IsFunction cs = (arity : ℕ) × (1 ≤ length cs) × AreClauses arity cs

-- A loop function; its `receive` is a level of nesting of its own.
pub record IsLoop (l : LoopTree) : Type 0 where
  pub are_patterns : AreWell Pattern matches l.patterns
  pub are_guards : AreWellGuards l.guard
  pub has_clauses : IsTrue (has_clause l.receive)
  pub are_clauses : AreWellClauses l.receive
  pub patterns_deep : trees_depth l.patterns ≤ 256
  pub guards_deep : guards_depth l.guard ≤ 256
  pub clauses_deep : clauses_depth l.receive ≤ 255

abbrev pub loop_written : LoopTree → List Terminal → List Terminal
loop_written l rest = head_written l.name.name l.name.at l.patterns (guards_written l.guard
    (mark marks.Arrow ∷ word words.Receive ∷ clauses_written l.receive (word words.End ∷ rest)))

-- Forms

-- `-` and the name of an attribute
abbrev pub attribute_written : List ℕ → ℕ → List Terminal → List Terminal
attribute_written name at rest = mark marks.Minus ∷ atom name at ∷ rest

-- Tokens begin with a form, and so much is left.
pub data BeginsForm : FormTree → List Terminal → List Terminal → Type 0 where
  export_form : {es : List Exported} {at : ℕ} {ts rest : List Terminal} → IsTrue (are_arities es) →
      ts ≡ attribute_written (codes "export") at (mark marks.OpenParen ∷ mark marks.OpenBracket ∷ entries_written es
      (mark marks.CloseBracket ∷ mark marks.CloseParen ∷ dot ∷ rest)) →
      BeginsForm (forms.Export es) ts rest
  version_form : {t : Tree} {at : ℕ} {ts rest : List Terminal} → IsWell Pattern t → level t ≤ matches → tree_depth t ≤ 256 →
      IsTrue (is_term t) →
      ts ≡ attribute_written (codes "vsn") at (mark marks.OpenParen ∷ written t (mark marks.CloseParen ∷ dot ∷ rest)) →
      BeginsForm (forms.Version (more t none)) ts rest
  skipped_form : {name : List ℕ} {at : ℕ} {others ts rest : List Terminal} → attribute name ≡ skipped →
      after_dot others ≡ Some rest → ts ≡ attribute_written name at others → BeginsForm forms.Skipped ts rest
  function_form : {f : FunctionTree} {ts rest : List Terminal} → IsFunction f.clauses →
      ts ≡ function_written f.name f.clauses (dot ∷ rest) → BeginsForm (forms.Function f) ts rest
  loop_form : {l : LoopTree} {ts rest : List Terminal} → IsLoop l → ts ≡ loop_written l (dot ∷ rest) →
      BeginsForm (forms.Loop l) ts rest

-- Tokens are these forms, one behind the other.
abbrev pub AreForms : List FormTree → List Terminal → Type 0
AreForms [] ts = ts ≡ []
AreForms (f ∷ fs) ts = (rest : List Terminal) × BeginsForm f ts rest × AreForms fs rest

-- Tokens are a module: `-module` first, and then its other forms.
abbrev pub IsModule : List Terminal → ModuleTree → Type 0
IsModule ts m = (word_at : ℕ) × (rest : List Terminal) × (ts ≡ module_written m.name.name m.name.at word_at rest) ×
    AreForms m.forms rest

-- The law: tokens are one module.
abbrev pub OneModule : Type 0
OneModule = (ts : List Terminal) → (m n : ModuleTree) → IsModule ts m → IsModule ts n → m ≡ n
