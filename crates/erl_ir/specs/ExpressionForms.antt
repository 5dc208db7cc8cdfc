-- What expressions and clauses are to contracts: one level, since contracts see rows of them as such already.
use Rattle.std.specs.Prelude.{List, [], ◌∷◌}
use Rattle.erl_term.specs.Term.{tree}
use Rattle.erl_ir.specs.declared.expression.Expression.{Expression}
use Rattle.erl_ir.specs.declared.expression.Expression.TheVariants as variants
use Rattle.erl_ir.specs.declared.expression.Clause.{Clause}
use Rattle.erl_ir.specs.PatternForms.{pat}
use Rattle.erl_ir.specs.Expression.{Expr, Exprs, Guards, Clauses}
use Rattle.erl_ir.specs.Expression.{literal, variable, apply, match, block, case, short_circuit}
use Rattle.erl_ir.specs.Expression.{none, more, no_guards, guard, no_clauses, clause}

abbrev pub expr : Expression → Expr
expr (variants.Literal t) = literal (tree t)
expr (variants.Variable index) = variable index
expr (variants.Apply op es) = apply op es
expr (variants.Match p body) = match (pat p) body
expr (variants.Block body) = block body
expr (variants.Case subject cs) = case subject cs
expr (variants.ShortCircuit connective left right) = short_circuit connective left right

abbrev pub exprs : List Expression → Exprs
exprs [] = none
exprs (e ∷ es) = more (expr e) (exprs es)

abbrev pub guards : List Exprs → Guards
guards [] = no_guards
guards (tests ∷ gs) = guard tests (guards gs)

abbrev pub clauses : List Clause → Clauses
clauses [] = no_clauses
clauses (c ∷ cs) = clause c.patterns c.guard c.body (clauses cs)
