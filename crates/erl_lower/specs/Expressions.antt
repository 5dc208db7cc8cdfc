-- What expressions mean (Erlang Reference Manual, Expressions): a variable is its index among those that are bound, in the
-- order of evaluation, from left to right. Parentheses mean nothing.
use Rattle.std.specs.Prelude.{ℕ, List}
use Rattle.erl_ast.specs.declared.leaf.Leaf.{Leaf}
use Rattle.erl_ast.specs.declared.leaf.Leaf.TheVariants as leaves
use Rattle.erl_ast.specs.declared.shape.Infix.{Infix}
use Rattle.erl_ast.specs.declared.shape.Infix.TheVariants as infix_operator
use Rattle.erl_ast.specs.declared.shape.Prefix.{Prefix}
use Rattle.erl_ast.specs.declared.shape.Prefix.TheVariants.{Negate, Not}
use Rattle.erl_ast.specs.declared.shape.Qualifier.{Qualifier}
use Rattle.erl_ast.specs.declared.shape.Qualifier.TheVariants as qualifier
use Rattle.erl_ast.specs.declared.shape.Shape.{Shape}
use Rattle.erl_ast.specs.declared.shape.Shape.TheVariants as shapes
use Rattle.erl_ast.specs.Tree as tree
use Rattle.erl_ast.specs.Tree.{Tree, Trees, leaf, node, tree_count}
use Rattle.erl_lint.specs.Scopes.{Names, binds, binds_in, pattern_names_in, index_of, with_names}
use Rattle.erl_ir.specs.declared.operation.Connective.{Connective}
use Rattle.erl_ir.specs.declared.operation.Connective.TheVariants as connective
use Rattle.erl_ir.specs.declared.operation.Operation.TheVariants as operation
use Rattle.erl_ir.specs.declared.operation.Operator.{Operator}
use Rattle.erl_ir.specs.declared.operation.Operator.TheVariants as operator
use Rattle.erl_ir.specs.Expression.{Expr, Exprs, Guards, Clauses, literal, variable, apply, match, block, case}
use Rattle.erl_ir.specs.Expression.{short_circuit, none, more, no_guards, guard, no_clauses, clause}
use Rattle.erl_lower.specs.declared.making.Making.{Making}
use Rattle.erl_lower.specs.declared.making.Making.TheVariants.{Matching, Connecting, Together}
use Rattle.erl_lower.specs.BuiltIns.{local_call, remote_call}
use Rattle.erl_lower.specs.Literals.{literal_of}
use Rattle.erl_lower.specs.Patterns.{pattern_of, patterns_of}

abbrev pub leaf_expression : List ℕ → Names → Leaf → Expr
leaf_expression own bound (leaves.Variable name at) = variable (index_of bound name)
leaf_expression own bound l = literal (literal_of own l)

-- Operators

abbrev pub prefix_operator : Prefix → Operator
prefix_operator Negate = operator.Negate
prefix_operator Not = operator.Not

-- what an operator makes of its operands; a match and the connectives stand below
abbrev pub operated : Infix → Exprs → Expr
operated infix_operator.Multiply es = apply (operation.Operator operator.Multiply) es
operated infix_operator.Divide es = apply (operation.Operator operator.Divide) es
operated infix_operator.Remainder es = apply (operation.Operator operator.Remainder) es
operated infix_operator.And es = apply (operation.Operator operator.And) es
operated infix_operator.Add es = apply (operation.Operator operator.Add) es
operated infix_operator.Subtract es = apply (operation.Operator operator.Subtract) es
operated infix_operator.Or es = apply (operation.Operator operator.Or) es
operated infix_operator.Append es = apply (operation.Operator operator.Append) es
operated infix_operator.Equal es = apply (operation.Operator operator.Equal) es
operated infix_operator.NotEqual es = apply (operation.Operator operator.NotEqual) es
operated infix_operator.ExactlyEqual es = apply (operation.Operator operator.ExactlyEqual) es
operated infix_operator.ExactlyNotEqual es = apply (operation.Operator operator.ExactlyNotEqual) es
operated infix_operator.Less es = apply (operation.Operator operator.Less) es
operated infix_operator.Greater es = apply (operation.Operator operator.Greater) es
operated infix_operator.AtMost es = apply (operation.Operator operator.AtMost) es
operated infix_operator.AtLeast es = apply (operation.Operator operator.AtLeast) es
operated infix_operator.Send es = apply (operation.Operator operator.Send) es
operated infix_operator.AndAlso es = block es
operated infix_operator.OrElse es = block es
operated infix_operator.Match es = block es

-- the module of a remote call, in a module of this name
abbrev pub called_in : List ℕ → Qualifier → List ℕ
called_in own (qualifier.Module m) = m.name
called_in own (qualifier.ModuleName at) = own

-- `(E)` is E
abbrev pub alone : Exprs → Expr
alone (more e none) = e
alone es = block es

-- what is made of the expressions of a shape's parts, of which there are so many
abbrev pub made : List ℕ → Shape → ℕ → Exprs → Expr
made own shapes.Tuple n es = apply operation.Tuple es
made own shapes.List n es = apply operation.List es
made own shapes.Cons n es = apply operation.Cons es
made own shapes.Parenthesized n es = alone es
made own shapes.Block n es = block es
made own (shapes.Local f) n es = apply (local_call f.name n) es
made own (shapes.Remote m f) n es = apply (remote_call (called_in own m) f.name n) es
made own (shapes.Prefix op) n es = apply (operation.Operator (prefix_operator op)) es
made own (shapes.Infix op) n es = operated op es

-- what a shape makes of its parts
abbrev pub making_of : Shape → Making
making_of (shapes.Infix infix_operator.Match) = Matching
making_of (shapes.Infix infix_operator.AndAlso) = Connecting connective.AndAlso
making_of (shapes.Infix infix_operator.OrElse) = Connecting connective.OrElse
making_of shape = Together

-- one of three, by what a shape makes of its parts
abbrev pub by_making : {A : Type 0} → Making → A → (Connective → A) → A → A
by_making Matching matching connecting together = matching
by_making (Connecting c) matching connecting together = connecting c
by_making Together matching connecting together = together

-- The meaning of an expression in a module of this name, where these variables are bound. Each part is evaluated where those
-- before it have bound what they bind; of `P = E` that is E, and then P.
abbrev mutual
  pub expression_of : List ℕ → Names → Tree → Expr
  expression_of own bound (leaf l) = leaf_expression own bound l
  expression_of own bound (node shape ts) =
      by_making (making_of shape) (match_of own bound ts) (λ c. connected_of own bound c ts)
      (made own shape (tree_count ts) (row_of own bound ts))
  expression_of own bound (tree.case subject cs) =
      case (row_of own bound subject) (clauses_of own (with_names bound (binds_in subject)) cs)

  -- `P = E`
  pub match_of : List ℕ → Names → Trees → Expr
  match_of own bound tree.none = block none
  match_of own bound (tree.more p es) = match (pattern_of own (with_names bound (binds_in es)) p) (row_of own bound es)

  -- `B1 andalso B2`, `B1 orelse B2`
  pub connected_of : List ℕ → Names → Connective → Trees → Expr
  connected_of own bound c tree.none = block none
  connected_of own bound c (tree.more t ts) =
      short_circuit c (more (expression_of own bound t) none) (row_of own (with_names bound (binds t)) ts)

  -- operands, the tests of a guard, or a body
  pub row_of : List ℕ → Names → Trees → Exprs
  row_of own bound tree.none = none
  row_of own bound (tree.more t ts) = more (expression_of own bound t) (row_of own (with_names bound (binds t)) ts)

  -- each guard stands for itself
  pub guards_of : List ℕ → Names → tree.Guards → Guards
  guards_of own bound tree.no_guards = no_guards
  guards_of own bound (tree.guard tests gs) = guard (row_of own bound tests) (guards_of own bound gs)

  -- so does each clause: its patterns bind for its guard and its body
  pub clauses_of : List ℕ → Names → tree.Clauses → Clauses
  clauses_of own bound tree.no_clauses = no_clauses
  clauses_of own bound (tree.clause ps gs body cs) =
      clause (patterns_of own bound ps) (guards_of own (with_names bound (pattern_names_in ps)) gs)
      (row_of own (with_names bound (pattern_names_in ps)) body) (clauses_of own bound cs)
