-- One of the guards that are left is true where one of all is.
use Rattle.std.proofs.Common.{◌≡◌, drop}
use Rattle.erl_ir.specs.ExpressionForms.{guards}
use Rattle.erl_semantics.specs.Bindings.{bindings}
use Rattle.erl_semantics.specs.Guards.{one_holds}
use Rattle.erl_semantics.proofs.guards.one_holds.Given as goal

abbrev pub invariant-loop-tests : goal.invariant-loop-tests
invariant-loop-tests l =
    one_holds l.setting.own (bindings l.bound.base.now l.bound.fresh.now) (guards (drop l.tests-index l.alternatives)) l.calls ≡
    one_holds l.setting.own (bindings l.bound.base.now l.bound.fresh.now) (guards l.alternatives) l.fn.calls
