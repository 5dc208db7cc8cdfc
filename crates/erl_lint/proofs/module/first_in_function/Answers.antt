-- One clause more.
use Rattle.std.proofs.Common.{◌∙◌}
use Rattle.erl_lint.proofs.Walking.{function_found}
use Rattle.erl_lint.proofs.module.first_in_function.Goals as goal

pub loop-clause-preserved : goal.loop-clause-preserved
loop-clause-preserved c = (
  function_found c.args.functions.now.keys c.loop-clause.scope c.args.clauses.now c.loop-clause.clause-index c.clause-item.result
      c.args.first c.loop-clause.found c.in_ok-found.found c.loop-clause.invariant.1 c.loop-clause-test.true c.clause-item.is
      c.loop-clause.invariant.0 c.in_ok-found.ensures.found,
  c.in_ok-found.ensures.kept ∙ c.loop-clause.invariant.1,
)
