-- One instance more.
use Rattle.std.proofs.Common.{ap, sym, ◌∙◌, if◌then◌else◌, Some, map, drop, ◌+◌}
use Rattle.erl_semantics.specs.State.{current}
use Rattle.erl_semantics.specs.Views.{instance}
use Rattle.erl_steps.proofs.Worlds.{current_next}
use Rattle.erl_steps.proofs.world.current.Goals as goal

pub returns-then-same : goal.returns-then-same
returns-then-same c =
    sym c.loop-item.invariant ∙
    current_next c.args.module_name.now c.args.code.now c.loop-item.item-index c.item-item.result c.same.result c.loop-item-test.true
    c.item-item.is c.same.ensures ∙
    ap (λ b. if b then Some (instance c.item-item.result) else
    current c.args.module_name.now (map instance (drop (c.loop-item.item-index + 1) c.args.code.now))) c.if-same.true

pub loop-item-preserved : goal.loop-item-preserved
loop-item-preserved c =
    sym (current_next c.args.module_name.now c.args.code.now c.loop-item.item-index c.item-item.result c.same.result c.loop-item-test.true
    c.item-item.is c.same.ensures ∙
    ap (λ b. if b then Some (instance c.item-item.result) else
    current c.args.module_name.now (map instance (drop (c.loop-item.item-index + 1) c.args.code.now))) c.if-same.false) ∙
    c.loop-item.invariant
