-- One more is put back.
use Rattle.std.proofs.Common.{◌≡◌, ◌≤◌, ◌+◌, ◌-◌, arith, length}
use Rattle.app_table.proofs.Replacing.{back_more}
use Rattle.app_table.proofs.table.AppTable.swap_back.Goals as goal

pub loop-at-preserved : goal.loop-at-preserved
loop-at-preserved c =
    let k = c.loop-at.at - 1 in
    let next : c.loop-at.at ≡ (c.loop-at.at - 1) + 1 = omega (arith, c.loop-at-test.true) in
    let within : c.loop-at.at ≤ length c.args.replaced.now = omega (arith, c.loop-at.auto.at) in
    let both = back_more c.args.replaced.now c.args.self.now c.loop-at.self c.swap_spec.new.self k c.loop-at.at c.loop-at.replaced _ c.swap_spec.new.it next within c.loop-at.invariant.set c.loop-at.invariant.left c.swap_spec.ensures.set c.swap_spec.ensures.left in
    record { set = both.0; left = both.1 }
