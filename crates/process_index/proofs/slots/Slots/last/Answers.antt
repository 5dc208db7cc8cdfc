-- As many pids as were given, and 0.
use Rattle.std.proofs.Common.{length, suc, arith, ap}
use Rattle.std.specs.BTreeMap.{get}
use Rattle.std.specs.Ordering.{nat_cmp}
use Rattle.process_index.proofs.Standing.{length-standing}
use Rattle.process_index.proofs.slots.Slots.last.Goals as goal

pub returns : goal.returns
returns g c =
    let long = length-standing (get nat_cmp c.self.inside.living) 0 (suc c.self.inside.last) in
    let seen = ap length c.self.view_is in
    omega (arith, long, seen)
