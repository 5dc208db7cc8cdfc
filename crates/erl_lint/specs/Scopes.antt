-- Which variables are bound where (Erlang Reference Manual, Expressions, Variables and Match Operator; Pattern Matching).
use Rattle.std.specs.Prelude.{ℕ, Bool, if◌then◌else◌, List, [], ◌∷◌, ◌++◌, codes}
use Rattle.std.specs.List.{list_any, position_or_len}
use Rattle.std.specs.Str.{bytes_eq}
use Rattle.indexmap.specs.IndexSet.{insert_key, insert_all}
use Rattle.erl_ast.specs.declared.leaf.Leaf.{Leaf}
use Rattle.erl_ast.specs.declared.leaf.Leaf.TheVariants as leaves
use Rattle.erl_ast.specs.declared.shape.Infix.TheVariants as operators
use Rattle.erl_ast.specs.declared.shape.Shape.{Shape}
use Rattle.erl_ast.specs.declared.shape.Shape.TheVariants as shapes
use Rattle.erl_ast.specs.Tree.{Tree, Trees, leaf, node, case, none, more}
use Rattle.erl_lint.specs.declared.scoping.Scoping.{Scoping}
use Rattle.erl_lint.specs.declared.scoping.Scoping.TheVariants.{Apart, InTurn, Matching, FirstOnly}

-- the names of variables
abbrev pub Names : Type 0
Names = List (List ℕ)

-- whether a variable is among those that are bound
abbrev pub is_bound : Names → List ℕ → Bool
is_bound bound name = list_any (bytes_eq name) bound

-- The index of a variable: how many were bound before it. One that is not bound would be bound behind all.
abbrev pub index_of : Names → List ℕ → ℕ
index_of bound name = position_or_len (bytes_eq name) bound

-- the bound ones with one more, each once
abbrev pub with_name : Names → List ℕ → Names
with_name bound name = insert_key bytes_eq bound name

-- the bound ones with these, each once
abbrev pub with_names : Names → Names → Names
with_names bound names = insert_all bytes_eq bound names

-- What the parts of an expression see of one another. The parts of a block see what those before them bind, the right side
-- of `andalso` and `orelse` sees what the left binds, and the right side of a match sees nothing of its pattern. Parts of
-- any other expression see nothing of one another.
abbrev pub scoping_of : Shape → Scoping
scoping_of shapes.Block = InTurn
scoping_of (shapes.Infix operators.Match) = Matching
scoping_of (shapes.Infix operators.AndAlso) = FirstOnly
scoping_of (shapes.Infix operators.OrElse) = FirstOnly
scoping_of shape = Apart

-- The variables of a pattern. `_` is never bound.

abbrev pub variable_names : List ℕ → Names
variable_names name = if bytes_eq name (codes "_") then [] else name ∷ []

abbrev pub leaf_names : Leaf → Names
leaf_names (leaves.Variable name at) = variable_names name
leaf_names l = []

abbrev mutual
  pub pattern_names : Tree → Names
  pattern_names (leaf l) = leaf_names l
  pattern_names (node shape ts) = pattern_names_in ts
  pattern_names (case subject cs) = []

  pub pattern_names_in : Trees → Names
  pattern_names_in none = []
  pattern_names_in (more t ts) = pattern_names t ++ pattern_names_in ts

-- one of four, by what the parts see of one another
abbrev pub by_scoping : {A : Type 0} → Scoping → A → A → A → A → A
by_scoping Apart apart turn match first = apart
by_scoping InTurn apart turn match first = turn
by_scoping Matching apart turn match first = match
by_scoping FirstOnly apart turn match first = first

-- What is bound behind an expression that was not before it. All parts bind, but the right side of `andalso` and `orelse`
-- doesn't, nor do the clauses of a `case`. `P = E` binds what `E` binds, and then the variables of `P`.
abbrev mutual
  pub binds : Tree → Names
  binds (leaf l) = []
  binds (node shape ts) = by_scoping (scoping_of shape) (binds_in ts) (binds_in ts) (binds_in_match ts) (binds_in_first ts)
  binds (case subject cs) = binds_in subject

  pub binds_in : Trees → Names
  binds_in none = []
  binds_in (more t ts) = binds t ++ binds_in ts

  pub binds_in_match : Trees → Names
  binds_in_match none = []
  binds_in_match (more p es) = binds_in es ++ pattern_names p

  pub binds_in_first : Trees → Names
  binds_in_first none = []
  binds_in_first (more t ts) = binds t

-- what the parts of an expression bind behind it
abbrev pub bound_by_parts : Scoping → Trees → Names
bound_by_parts scoping ts = by_scoping scoping (binds_in ts) (binds_in ts) (binds_in_match ts) (binds_in_first ts)
