-- One clause more is made, and none is left at the end.
use Rattle.std.proofs.Common.{◌∙◌, ap, arith, ℕ}
use Rattle.erl_ir.specs.declared.function.Definition.TheVariants as definition
use Rattle.erl_ir.specs.ExpressionForms.{clauses}
use Rattle.erl_lower.specs.Meaning.{function_clauses}
use Rattle.erl_lower.proofs.Rows.{ended, next_function_clause, onto_clauses, onto_clauses-none}
use Rattle.erl_lower.proofs.program.lower_function.Goals as goal

pub loop-clause-preserved : goal.loop-clause-preserved
loop-clause-preserved c = (
  next_function_clause c.args.own.now c.loop-clause.items.items c.push.new.self.items c.args.row.now c.loop-clause.clause-index c.clause-item.result
      c.in_ok-lower_clause.field-0 c.loop-clause.scope (function_clauses c.args.own.now c.args.row.now) c.loop-clause-test.true c.clause-item.is
      c.in_ok-push.ensures.items c.loop-clause.invariant.1 c.in_ok-lower_clause.ensures.found c.loop-clause.invariant.0,
  c.in_ok-lower_clause.ensures.kept ∙ c.loop-clause.invariant.1,
)

pub returns-clause-found : goal.returns-clause-found
returns-clause-found c =
    ap definition.Clauses (c.new.ensures ∙
    ended onto_clauses (λ (s : ℕ) xs. function_clauses c.args.own.now xs) clauses 0 onto_clauses-none c.loop-clause.items.items c.args.row.now
    c.loop-clause.clause-index (function_clauses c.args.own.now c.args.row.now) (omega (arith, c.loop-clause-test.false)) c.loop-clause.invariant.0)
