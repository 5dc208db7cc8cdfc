-- The tests that are left hold where all do.
use Rattle.std.proofs.Common.{◌≡◌, drop}
use Rattle.erl_ir.specs.ExpressionForms.{exprs}
use Rattle.erl_semantics.specs.Bindings.{bindings}
use Rattle.erl_semantics.specs.Guards.{all_hold}
use Rattle.erl_semantics.proofs.guards.all_hold.Given as goal

abbrev pub invariant-loop-expression : goal.invariant-loop-expression
invariant-loop-expression l =
    all_hold l.setting.own (bindings l.bound.base.now l.bound.fresh.now) (exprs (drop l.expression-index l.tests)) l.calls ≡
    all_hold l.setting.own (bindings l.bound.base.now l.bound.fresh.now) (exprs l.tests) l.fn.calls
