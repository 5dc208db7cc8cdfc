-- What is left has the instance that all have.
use Rattle.std.proofs.Common.{◌≡◌, drop, map}
use Rattle.erl_semantics.specs.State.{current}
use Rattle.erl_semantics.specs.Views.{instance}
use Rattle.erl_steps.proofs.world.current.Given as goal

abbrev pub invariant-loop-item : goal.invariant-loop-item
invariant-loop-item l = current l.module_name (map instance (drop l.item-index l.code)) ≡ current l.module_name (map instance l.code)
