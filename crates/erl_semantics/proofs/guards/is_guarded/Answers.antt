-- There is a guard.
use Rattle.erl_semantics.specs.Bindings.{bindings}
use Rattle.erl_semantics.proofs.Tests.{guarded_some}
use Rattle.erl_semantics.proofs.guards.is_guarded.Goals as goal

pub returns : goal.returns
returns c = rw (guarded_some c.args.setting.now.own (bindings c.args.bound.now.base.now c.args.bound.now.fresh.now)
    c.args.alternatives.now c.args.calls.now c.if-is_empty.ensures) c.one_holds.ensures
