-- This stands at the pid then.
use Rattle.std.proofs.Common.{◌≤◌, Some, arith, suc, ap, length}
use Rattle.std.specs.BTreeMap.{get}
use Rattle.std.specs.Ordering.{nat_cmp}
use Rattle.process_index.proofs.Standing.{changed, length-standing, updated_ends}
use Rattle.process_index.proofs.slots.Slots.put.Goals as goal

pub returns-in-Ok-clause-ok : goal.returns-in-Ok-clause-ok
returns-in-Ok-clause-ok g c =
    changed (get nat_cmp c.self.inside.living) (get nat_cmp c.insert.new.self) c.self.inside.last c.args.pid (Some c.args.it) c.args.self.now c.self.view_is c.in-Ok.ensures.updates.0

pub invariant_of-self : goal.invariant_of-self
invariant_of-self g c =
    let old = get nat_cmp c.self.inside.living in
    let last = c.self.inside.last in
    let within : c.args.pid ≤ last = omega (arith, length-standing old 0 (suc last), ap length c.self.view_is, c.requires) in
    updated_ends old (get nat_cmp c.insert.new.self) c.args.pid (Some c.args.it) last last c.self.invariant (omega arith) within c.in-Ok.ensures.updates.0
