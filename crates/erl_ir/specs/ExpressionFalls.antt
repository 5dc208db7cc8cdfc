-- What a row holds stands less high than the row: so a recursion down an expression ends.
use Rattle.std.specs.Prelude.{◌≤◌, ◌+◌, List, [], ◌∷◌}
use Rattle.std.proofs.Common.{arith}
use denote.Param.Weighed.{most}
use Rattle.erl_ir.specs.declared.expression.Expression.{Expression}
use Rattle.erl_ir.specs.declared.expression.Expression.TheVariants.{Literal, Variable, Apply, Match, Block, Case, ShortCircuit}
use Rattle.erl_ir.specs.declared.expression.Clause.{Clause}
use Rattle.erl_ir.specs.declared.expression.Clauses.TheDeep.{deep-Expression, deep-Clause}
use Rattle.erl_ir.specs.Expression.{Exprs}
use Rattle.erl_ir.specs.ExpressionForms.{expr, exprs, guards, clauses}
use Rattle.erl_ir.specs.Heights.{expr_height, exprs_height, guards_height, clauses_height}

pub deep-Expression_le-height : (e : Expression) → deep-Expression e ≤ expr_height (expr e)
deep-Expression_le-height (Literal t) = omega arith
deep-Expression_le-height (Variable index) = omega arith
deep-Expression_le-height (Apply op es) = omega arith
deep-Expression_le-height (Match p body) = omega arith
deep-Expression_le-height (Block body) = omega arith
deep-Expression_le-height (Case subject cs) = omega arith
deep-Expression_le-height (ShortCircuit connective left right) = omega arith

pub most_le-exprs_height : (es : List Expression) → most (λ e. deep-Expression e) es ≤ exprs_height (exprs es)
most_le-exprs_height [] = omega arith
most_le-exprs_height (e ∷ es) = omega (arith, most_le-exprs_height es, deep-Expression_le-height e)

pub most_le-guards_height : (gs : List Exprs) → most (λ tests. exprs_height tests + 1) gs ≤ guards_height (guards gs)
most_le-guards_height [] = omega arith
most_le-guards_height (tests ∷ gs) = omega (arith, most_le-guards_height gs)

pub most_le-clauses_height : (cs : List Clause) → most (λ c. deep-Clause c) cs ≤ clauses_height (clauses cs)
most_le-clauses_height [] = omega arith
most_le-clauses_height (c ∷ cs) = omega (arith, most_le-clauses_height cs)
