use Rattle.std.proofs.Common.{◌<◌, ◌-◌, length, get_or, arith, ◌∙◌, length-set}
use Rattle.dependency_order.proofs.FreeSets.{counted_off, room}
use Rattle.dependency_order.proofs.order.give_up.Goals as goal

pub overflow_sub-held : goal.overflow_sub-held
overflow_sub-held c =
    room c.loop-module.held c.args.held.now c.args.given.now c.loop-module.module-index (omega arith) c.loop-module.invariant.each c.requires.enough

pub loop-module-preserved : goal.loop-module-preserved
loop-module-preserved c =
    let below : c.loop-module.module-index < length c.args.given.now = omega arith in
    let some = room c.loop-module.held c.args.held.now c.args.given.now c.loop-module.module-index below c.loop-module.invariant.each c.requires.enough in
    let x = get_or c.args.given.now c.loop-module.module-index 0 in
    record {
      many = length-set c.loop-module.held x (get_or c.loop-module.held x 0 - 1) ∙ c.loop-module.invariant.many;
      each = counted_off c.loop-module.held c.args.held.now c.args.given.now c.loop-module.module-index below c.loop-module.invariant.each some;
    }
