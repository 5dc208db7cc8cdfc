-- How high rows of expressions stand over what they hold: what a recursion down an expression falls by.
use Rattle.std.specs.Prelude.{ℕ, ◌+◌, max}
use Rattle.erl_ir.specs.Expression.{Expr, Exprs, Guards, Clauses}
use Rattle.erl_ir.specs.Expression.{literal, variable, apply, match, block, case, short_circuit}
use Rattle.erl_ir.specs.Expression.{none, more, no_guards, guard, no_clauses, clause}

abbrev mutual
  pub expr_height : Expr → ℕ
  expr_height (literal t) = 0
  expr_height (variable index) = 0
  expr_height (apply op es) = 1 + exprs_height es
  expr_height (match p body) = 1 + exprs_height body
  expr_height (block body) = 1 + exprs_height body
  expr_height (case subject cs) = 1 + max (exprs_height subject) (clauses_height cs)
  expr_height (short_circuit connective left right) = 1 + max (exprs_height left) (exprs_height right)

  pub exprs_height : Exprs → ℕ
  exprs_height none = 0
  exprs_height (more e es) = max (expr_height e) (exprs_height es)

  pub guards_height : Guards → ℕ
  guards_height no_guards = 0
  guards_height (guard tests gs) = max (1 + exprs_height tests) (guards_height gs)

  pub clauses_height : Clauses → ℕ
  clauses_height no_clauses = 0
  clauses_height (clause ps gs body cs) =
      max (max (1 + guards_height gs) (1 + exprs_height body)) (clauses_height cs)
