-- What lives at a pid stands there.
use Rattle.std.proofs.Common.{◌∙◌}
use Rattle.std.specs.BTreeMap.{get}
use Rattle.std.specs.Ordering.{nat_cmp}
use Rattle.process_index.proofs.Standing.{found}
use Rattle.process_index.proofs.slots.Slots.get.Goals as goal

pub returns : goal.returns
returns g c =
    c.get.ensures.value ∙ found (get nat_cmp c.self.inside.living) c.self.inside.last c.args.pid c.args.self.now c.self.invariant c.self.view_is
