-- How a syntax tree is written: its tokens, and then those that follow it (Erlang Reference Manual, Expressions; erl_parse.yrl
-- of OTP 25).
use Rattle.std.specs.Prelude.{ℕ, List, [], ◌∷◌, codes}
use Rattle.erl_scan.specs.declared.mark.Mark.TheVariants as marks
use Rattle.erl_scan.specs.declared.word.Word.TheVariants as words
use Rattle.erl_ast.specs.declared.leaf.Sign.{Sign}
use Rattle.erl_ast.specs.declared.leaf.Sign.TheVariants.{Unsigned, Plus, Minus}
use Rattle.erl_ast.specs.declared.leaf.Leaf.{Leaf}
use Rattle.erl_ast.specs.declared.leaf.Leaf.TheVariants as leaves
use Rattle.erl_ast.specs.declared.shape.Prefix.{Prefix}
use Rattle.erl_ast.specs.declared.shape.Prefix.TheVariants.{Negate, Not}
use Rattle.erl_ast.specs.declared.shape.Infix.{Infix}
use Rattle.erl_ast.specs.declared.shape.Infix.TheVariants as operators
use Rattle.erl_ast.specs.declared.shape.Qualifier.{Qualifier}
use Rattle.erl_ast.specs.declared.shape.Qualifier.TheVariants as qualifier
use Rattle.erl_ast.specs.declared.shape.Shape.{Shape}
use Rattle.erl_ast.specs.declared.shape.Shape.TheVariants as shapes
use Rattle.erl_ast.specs.Terminal.{Terminal, integer, atom, word, variable, string, mark}
use Rattle.erl_ast.specs.Tree.{Tree, Trees, Guards, Clauses}
use Rattle.erl_ast.specs.Tree.{leaf, node, case, none, more, no_guards, guard, no_clauses, clause}

-- Leaves

abbrev pub signed : Sign → List Terminal → List Terminal
signed Unsigned rest = rest
signed Plus rest = mark marks.Plus ∷ rest
signed Minus rest = mark marks.Minus ∷ rest

abbrev pub strings_written : List (List ℕ) → List Terminal → List Terminal
strings_written [] rest = rest
strings_written (s ∷ ss) rest = string s ∷ strings_written ss rest

-- `?MODULE`, with the offset of what follows the sign
abbrev pub module_name_written : ℕ → List Terminal → List Terminal
module_name_written at rest = mark marks.Question ∷ variable (codes "MODULE") at ∷ rest

abbrev pub leaf_written : Leaf → List Terminal → List Terminal
leaf_written (leaves.Integer sign n) rest = signed sign (integer n ∷ rest)
leaf_written (leaves.Atom named) rest = atom named.name named.at ∷ rest
leaf_written (leaves.Strings ss) rest = strings_written ss rest
leaf_written (leaves.Variable name at) rest = variable name at ∷ rest
leaf_written (leaves.ModuleName at) rest = module_name_written at rest

-- Operators

abbrev pub prefix_terminal : Prefix → Terminal
prefix_terminal Negate = mark marks.Minus
prefix_terminal Not = word words.Not

abbrev pub infix_terminal : Infix → Terminal
infix_terminal operators.Multiply = mark marks.Times
infix_terminal operators.Divide = word words.Div
infix_terminal operators.Remainder = word words.Rem
infix_terminal operators.And = word words.And
infix_terminal operators.Add = mark marks.Plus
infix_terminal operators.Subtract = mark marks.Minus
infix_terminal operators.Or = word words.Or
infix_terminal operators.Append = mark marks.Append
infix_terminal operators.Equal = mark marks.Equal
infix_terminal operators.NotEqual = mark marks.Unequal
infix_terminal operators.ExactlyEqual = mark marks.ExactlyEqual
infix_terminal operators.ExactlyNotEqual = mark marks.ExactlyUnequal
infix_terminal operators.Less = mark marks.Less
infix_terminal operators.Greater = mark marks.Greater
infix_terminal operators.AtMost = mark marks.LessOrEqual
infix_terminal operators.AtLeast = mark marks.GreaterOrEqual
infix_terminal operators.AndAlso = word words.AndAlso
infix_terminal operators.OrElse = word words.OrElse
infix_terminal operators.Send = mark marks.Send
infix_terminal operators.Match = mark marks.Match

-- Brackets and calls: what stands before the parts of a node, between them and behind them

abbrev pub qualified : Qualifier → List Terminal → List Terminal
qualified (qualifier.Module m) rest = atom m.name m.at ∷ mark marks.Colon ∷ rest
qualified (qualifier.ModuleName at) rest = module_name_written at (mark marks.Colon ∷ rest)

abbrev pub opened : Shape → List Terminal → List Terminal
opened shapes.Tuple rest = mark marks.OpenBrace ∷ rest
opened shapes.List rest = mark marks.OpenBracket ∷ rest
opened shapes.Cons rest = mark marks.OpenBracket ∷ rest
opened shapes.Parenthesized rest = mark marks.OpenParen ∷ rest
opened shapes.Block rest = word words.Begin ∷ rest
opened (shapes.Local f) rest = atom f.name f.at ∷ mark marks.OpenParen ∷ rest
opened (shapes.Remote m f) rest = qualified m (atom f.name f.at ∷ mark marks.OpenParen ∷ rest)
opened (shapes.Prefix op) rest = prefix_terminal op ∷ rest
opened (shapes.Infix op) rest = rest

abbrev pub closed : Shape → List Terminal → List Terminal
closed shapes.Tuple rest = mark marks.CloseBrace ∷ rest
closed shapes.List rest = mark marks.CloseBracket ∷ rest
closed shapes.Cons rest = mark marks.CloseBracket ∷ rest
closed shapes.Parenthesized rest = mark marks.CloseParen ∷ rest
closed shapes.Block rest = word words.End ∷ rest
closed (shapes.Local f) rest = mark marks.CloseParen ∷ rest
closed (shapes.Remote m f) rest = mark marks.CloseParen ∷ rest
closed (shapes.Prefix op) rest = rest
closed (shapes.Infix op) rest = rest

-- what stands before a part, if it is the last and if others follow it
abbrev pub before_part : Shape → Trees → Terminal
before_part shapes.Cons none = mark marks.Bar
before_part (shapes.Infix op) ts = infix_terminal op
before_part shape ts = mark marks.Comma

abbrev mutual
  -- an expression, a pattern or a test
  pub written : Tree → List Terminal → List Terminal
  written (leaf l) rest = leaf_written l rest
  written (node shape ts) rest = opened shape (parts_written shape ts (closed shape rest))
  written (case subject cs) rest =
      word words.Case ∷ row_written subject (word words.Of ∷ clauses_written cs (word words.End ∷ rest))

  -- the parts of a node
  pub parts_written : Shape → Trees → List Terminal → List Terminal
  parts_written shape none rest = rest
  parts_written shape (more t ts) rest = written t (other_parts_written shape ts rest)

  -- the parts behind the first
  pub other_parts_written : Shape → Trees → List Terminal → List Terminal
  other_parts_written shape none rest = rest
  other_parts_written shape (more t ts) rest = before_part shape ts ∷ written t (other_parts_written shape ts rest)

  -- trees with commas between them: patterns, tests, a body
  pub row_written : Trees → List Terminal → List Terminal
  row_written none rest = rest
  row_written (more t ts) rest = written t (others_written ts rest)

  pub others_written : Trees → List Terminal → List Terminal
  others_written none rest = rest
  others_written (more t ts) rest = mark marks.Comma ∷ written t (others_written ts rest)

  -- `when G1; ..; Gn`
  pub guards_written : Guards → List Terminal → List Terminal
  guards_written no_guards rest = rest
  guards_written (guard tests gs) rest = word words.When ∷ row_written tests (other_guards_written gs rest)

  pub other_guards_written : Guards → List Terminal → List Terminal
  other_guards_written no_guards rest = rest
  other_guards_written (guard tests gs) rest = mark marks.Semicolon ∷ row_written tests (other_guards_written gs rest)

  -- the clauses of a `case` or of a `receive`, with semicolons between them
  pub clauses_written : Clauses → List Terminal → List Terminal
  clauses_written no_clauses rest = rest
  clauses_written (clause ps gs body cs) rest =
      row_written ps (guards_written gs (mark marks.Arrow ∷ row_written body (other_clauses_written cs rest)))

  pub other_clauses_written : Clauses → List Terminal → List Terminal
  other_clauses_written no_clauses rest = rest
  other_clauses_written (clause ps gs body cs) rest = mark marks.Semicolon ∷
      row_written ps (guards_written gs (mark marks.Arrow ∷ row_written body (other_clauses_written cs rest)))
