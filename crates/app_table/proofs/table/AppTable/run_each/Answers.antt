-- One more runs.
use Rattle.std.proofs.Common.{◌<◌, ◌∙◌, arith, length}
use Rattle.app_table.proofs.Restoring.{run_more}
use Rattle.app_table.proofs.table.AppTable.run_each.Goals as goal

pub loop-at-preserved : goal.loop-at-preserved
loop-at-preserved c =
    let within : c.loop-at.at < length c.args.pids.now = omega (arith, c.loop-at-test.true, c.requires) in
    run_more c.args.reruns.now c.args.pids.now c.loop-at.at _ _ c.loop-at.self c.set_child.new.self c.loop-at-test.true within c.set_child.ensures ∙ c.loop-at.invariant
