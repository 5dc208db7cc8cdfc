-- This stands behind the others then.
use Rattle.std.proofs.Common.{◌+◌, arith, suc, ap, length, refl}
use Rattle.std.specs.BTreeMap.{get}
use Rattle.std.specs.Ordering.{nat_cmp}
use Rattle.process_index.proofs.Standing.{length-standing, pushed}
use Rattle.process_index.proofs.slots.Slots.push.Goals as goal

pub overflow_add-pid : goal.overflow_add-pid
overflow_add-pid g c =
    let last = c.self.inside.last in
    omega (arith, length-standing (get nat_cmp c.self.inside.living) 0 (suc last), ap length c.self.view_is, c.requires)

pub returns-in-Ok-clause-ok : goal.returns-in-Ok-clause-ok
returns-in-Ok-clause-ok g c =
    let last = c.self.inside.last in
    pushed (get nat_cmp c.self.inside.living) (get nat_cmp c.insert.new.self) last (last + 1) c.args.it c.args.self.now refl c.self.view_is c.in-Ok.ensures.updates.0
