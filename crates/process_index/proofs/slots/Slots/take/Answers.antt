-- Nothing stands at the pid then.
use Rattle.std.proofs.Common.{None, ◌∙◌}
use Rattle.std.specs.BTreeMap.{get}
use Rattle.std.specs.Ordering.{nat_cmp}
use Rattle.process_index.proofs.Standing.{changed, found}
use Rattle.process_index.proofs.slots.Slots.take.Goals as goal

pub returns-clause-taken : goal.returns-clause-taken
returns-clause-taken g c =
    c.remove.ensures.value ∙ found (get nat_cmp c.self.inside.living) c.self.inside.last c.args.pid c.args.self.now c.self.invariant c.self.view_is

pub returns-clause-rest : goal.returns-clause-rest
returns-clause-rest g c =
    changed (get nat_cmp c.self.inside.living) (get nat_cmp c.remove.new.self) c.self.inside.last c.args.pid None c.args.self.now c.self.view_is c.remove.ensures.updates.0
