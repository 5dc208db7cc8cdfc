-- Which syntax trees are expressions, patterns and tests: what may stand where (Erlang Reference Manual, Expressions;
-- erl_parse.yrl of OTP 25).
use Rattle.std.specs.Prelude.{◌≡◌, ℕ, ◌-◌, ◌≤◌, ◌==◌, nat_le, Bool, true, false, ◌&&◌, not}
use Rattle.std.specs.Prelude.{IsTrue, ⊤, List, [], codes}
use Rattle.std.specs.Str.{bytes_eq}
use Rattle.erl_ast.specs.declared.leaf.Sign.{Sign}
use Rattle.erl_ast.specs.declared.leaf.Sign.TheVariants.{Unsigned, Minus}
use Rattle.erl_ast.specs.declared.leaf.Leaf.{Leaf}
use Rattle.erl_ast.specs.declared.leaf.Leaf.TheVariants as leaves
use Rattle.erl_ast.specs.declared.role.Role.{Role}
use Rattle.erl_ast.specs.declared.role.Role.TheVariants.{Expression, Pattern, Test}
use Rattle.erl_ast.specs.declared.shape.Prefix.TheVariants.{Negate}
use Rattle.erl_ast.specs.declared.shape.Infix.{Infix}
use Rattle.erl_ast.specs.declared.shape.Infix.TheVariants as operators
use Rattle.erl_ast.specs.declared.shape.Qualifier.{Qualifier}
use Rattle.erl_ast.specs.declared.shape.Qualifier.TheVariants as qualifier
use Rattle.erl_ast.specs.declared.shape.Shape.{Shape}
use Rattle.erl_ast.specs.declared.shape.Shape.TheVariants as shapes
use Rattle.erl_ast.specs.Functions.{is_guard_function}
use Rattle.erl_ast.specs.Tree.{Tree, Trees, Guards, Clauses, tree_count}
use Rattle.erl_ast.specs.Tree.{leaf, node, case, none, more, no_guards, guard, no_clauses, clause}

-- Operator precedence. An operator of a lower level binds tighter. What is no operator has level 0, an operator before its
-- operand level 1.

abbrev pub level_of : Infix → ℕ
level_of operators.Multiply = 2
level_of operators.Divide = 2
level_of operators.Remainder = 2
level_of operators.And = 2
level_of operators.Add = 3
level_of operators.Subtract = 3
level_of operators.Or = 3
level_of operators.Append = 4
level_of operators.Equal = 5
level_of operators.NotEqual = 5
level_of operators.ExactlyEqual = 5
level_of operators.ExactlyNotEqual = 5
level_of operators.Less = 5
level_of operators.Greater = 5
level_of operators.AtMost = 5
level_of operators.AtLeast = 5
level_of operators.AndAlso = 6
level_of operators.OrElse = 7
level_of operators.Send = 8
level_of operators.Match = 9

-- the greatest level of all but matches, and of all
abbrev pub operations : ℕ
operations = 8

abbrev pub matches : ℕ
matches = 9

-- Operators of one level group from the left, but `++`, `!` and `=` from the right, and comparisons not at all: so high may
-- the level of an operand be, on the left and on the right.

abbrev pub left_level : Infix → ℕ
left_level operators.Multiply = 2
left_level operators.Divide = 2
left_level operators.Remainder = 2
left_level operators.And = 2
left_level operators.Add = 3
left_level operators.Subtract = 3
left_level operators.Or = 3
left_level operators.AndAlso = 6
left_level operators.OrElse = 7
left_level op = level_of op - 1

abbrev pub right_level : Infix → ℕ
right_level operators.Append = 4
right_level operators.Send = 8
right_level operators.Match = 9
right_level op = level_of op - 1

abbrev pub level : Tree → ℕ
level (node (shapes.Prefix op) ts) = 1
level (node (shapes.Infix op) ts) = level_of op
level t = 0

-- How high the level of a part may be, of the first and of the others. A match stands in a body, behind another match, as the
-- subject of a `case`, and everywhere in a pattern.

abbrev pub in_brackets : Role → ℕ
in_brackets Pattern = matches
in_brackets role = operations

abbrev pub first_level : Role → Shape → ℕ
first_level role shapes.Block = matches
first_level role (shapes.Prefix op) = 1
first_level role (shapes.Infix op) = left_level op
first_level role shape = in_brackets role

abbrev pub other_level : Role → Shape → ℕ
other_level role shapes.Block = matches
other_level role (shapes.Prefix op) = 1
other_level role (shapes.Infix op) = right_level op
other_level role shape = in_brackets role

-- Leaves: an integer is in -2^63 to 2^63 - 1, and of strings there is one or more.

abbrev pub in_range : Sign → ℕ → Bool
in_range Minus n = nat_le n 9223372036854775808
in_range sign n = nat_le n 9223372036854775807

abbrev pub is_leaf : Leaf → Bool
is_leaf (leaves.Integer sign n) = in_range sign n
is_leaf (leaves.Strings []) = false
is_leaf l = true

-- Which nodes there are, by how many parts they have. In a guard stand all operators but `++`, `!` and `=`, and calls of some
-- functions that are built in; in a pattern no operator but `=`, and no call.

abbrev pub calls : Role → List ℕ → ℕ → Bool
calls Expression name n = true
calls Pattern name n = false
calls Test name n = is_guard_function name n

abbrev pub is_erlang : Qualifier → Bool
is_erlang (qualifier.Module m) = bytes_eq m.name (codes "erlang")
is_erlang (qualifier.ModuleName at) = false

abbrev pub calls_remote : Role → Qualifier → List ℕ → ℕ → Bool
calls_remote Expression m name n = true
calls_remote Pattern m name n = false
calls_remote Test m name n = is_erlang m && is_guard_function name n

abbrev pub has_operator : Role → Infix → Bool
has_operator Expression op = true
has_operator Pattern operators.Match = true
has_operator Pattern op = false
has_operator Test operators.Append = false
has_operator Test operators.Send = false
has_operator Test operators.Match = false
has_operator Test op = true

abbrev pub is_expression : Role → Bool
is_expression Expression = true
is_expression role = false

abbrev pub is_pattern : Role → Bool
is_pattern Pattern = true
is_pattern role = false

abbrev pub has : Role → Shape → ℕ → Bool
has role shapes.Tuple n = true
has role shapes.List n = true
has role shapes.Cons n = nat_le 2 n
has role shapes.Parenthesized n = n == 1
has role shapes.Block n = is_expression role && nat_le 1 n
has role (shapes.Local f) n = calls role f.name n
has role (shapes.Remote m f) n = calls_remote role m f.name n
has role (shapes.Prefix op) n = not (is_pattern role) && (n == 1)
has role (shapes.Infix op) n = has_operator role op && (n == 2)

-- `-` before digits is the sign of an integer.
abbrev pub is_unsigned : Tree → Bool
is_unsigned (leaf (leaves.Integer Unsigned n)) = true
is_unsigned t = false

-- what a node asks of its first part beside its role and level
abbrev pub begins : Shape → Trees → Bool
begins (shapes.Prefix Negate) (more t ts) = not (is_unsigned t)
begins shape ts = true

-- The role of a node's first part: left of `=` stands a pattern (Erlang Reference Manual, Expressions, The Match Operator).
abbrev pub first_role : Role → Shape → Role
first_role role (shapes.Infix operators.Match) = Pattern
first_role role shape = role

abbrev pub has_clause : Clauses → Bool
has_clause no_clauses = false
has_clause (clause ps gs body cs) = true

abbrev mutual
  -- a tree in its role
  pub IsWell : Role → Tree → Type 0
  IsWell role (leaf l) = IsTrue (is_leaf l)
  IsWell role (node shape ts) =
      IsTrue (has role shape (tree_count ts)) × IsTrue (begins shape ts) × ArePartsWell role shape ts
  IsWell role (case subject cs) =
      IsTrue (is_expression role) × (tree_count subject ≡ 1) × AreWell Expression matches subject ×
      IsTrue (has_clause cs) × AreWellClauses cs

  -- the parts of a node
  pub ArePartsWell : Role → Shape → Trees → Type 0
  ArePartsWell role shape none = ⊤
  ArePartsWell role shape (more t ts) =
      (level t ≤ first_level role shape) × IsWell (first_role role shape) t × AreWell role (other_level role shape) ts

  -- trees in a row, each of at most a level
  pub AreWell : Role → ℕ → Trees → Type 0
  AreWell role most none = ⊤
  AreWell role most (more t ts) = (level t ≤ most) × IsWell role t × AreWell role most ts

  pub AreWellGuards : Guards → Type 0
  AreWellGuards no_guards = ⊤
  AreWellGuards (guard tests gs) = (1 ≤ tree_count tests) × AreWell Test operations tests × AreWellGuards gs

  -- the clauses of a `case` or of a `receive`
  pub AreWellClauses : Clauses → Type 0
  AreWellClauses no_clauses = ⊤
  AreWellClauses (clause ps gs body cs) =
      (tree_count ps ≡ 1) × AreWell Pattern matches ps × AreWellGuards gs ×
      (1 ≤ tree_count body) × AreWell Expression matches body × AreWellClauses cs
