-- Expressions, clauses and guards, as contracts see them (Erlang Reference Manual, Expressions; erl_parse(3), The Abstract
-- Format).
use Rattle.std.specs.Prelude.{ℕ, ◌+◌, max}
use Rattle.erl_term.specs.Tree.{Tree}
use Rattle.erl_ir.specs.declared.operation.Operation.{Operation}
use Rattle.erl_ir.specs.declared.operation.Connective.{Connective}
use Rattle.erl_ir.specs.Pattern.{Pat, Pats, pat_depth, pats_depth}

mutual
  pub data Expr : Type 0 where
    -- a literal
    literal : Tree → Expr
    -- a variable, by its index in the bindings
    variable : ℕ → Expr
    -- What is made of the values of all its operands: a tuple, a list, an operator, a call. (Reference Manual, Expression
    -- Evaluation: all subexpressions are evaluated before an expression itself is evaluated.)
    apply : Operation → Exprs → Expr
    -- `P = E`: the body is `E`
    match : Pat → Exprs → Expr
    -- `begin B end`
    block : Exprs → Expr
    -- `case B of Cs end`
    case : Exprs → Clauses → Expr
    -- `B1 andalso B2`, `B1 orelse B2`
    short_circuit : Connective → Exprs → Exprs → Expr

  -- Expressions in a row: the operands of an operation, the tests of a guard, or a body. A body is evaluated from left to
  -- right, and its value is that of its last expression; an expression alone is a body of one.
  pub data Exprs : Type 0 where
    none : Exprs
    more : Expr → Exprs → Exprs

  -- A guard sequence `G1; ..; Gn`: each guard is a row of tests `T1, ..., Tn`. A clause without `when` has none.
  pub data Guards : Type 0 where
    no_guards : Guards
    guard : Exprs → Guards → Guards

  -- Clauses in a row: each has its patterns, its guard sequence and its body.
  pub data Clauses : Type 0 where
    no_clauses : Clauses
    clause : Pats → Guards → Exprs → Clauses → Clauses

-- how many expressions stand in the row
abbrev pub expr_count : Exprs → ℕ
expr_count none = 0
expr_count (more e es) = 1 + expr_count es

abbrev mutual
  -- How deep an expression is nested: 0 for a literal and a variable, else 1 and the greatest depth of its parts. Clauses,
  -- guards and rows are no level of their own.
  pub expr_depth : Expr → ℕ
  expr_depth (literal t) = 0
  expr_depth (variable index) = 0
  expr_depth (apply op es) = 1 + exprs_depth es
  expr_depth (match p body) = 1 + max (pat_depth p) (exprs_depth body)
  expr_depth (block body) = 1 + exprs_depth body
  expr_depth (case subject cs) = 1 + max (exprs_depth subject) (clauses_depth cs)
  expr_depth (short_circuit connective left right) = 1 + max (exprs_depth left) (exprs_depth right)

  pub exprs_depth : Exprs → ℕ
  exprs_depth none = 0
  exprs_depth (more e es) = max (expr_depth e) (exprs_depth es)

  pub guards_depth : Guards → ℕ
  guards_depth no_guards = 0
  guards_depth (guard tests gs) = max (exprs_depth tests) (guards_depth gs)

  pub clauses_depth : Clauses → ℕ
  clauses_depth no_clauses = 0
  clauses_depth (clause ps gs body cs) =
      max (max (pats_depth ps) (guards_depth gs)) (max (exprs_depth body) (clauses_depth cs))
