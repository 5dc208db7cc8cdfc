-- One more is stopped.
use Rattle.app_table.proofs.States.{stop_more}
use Rattle.app_table.proofs.children.stop_each.Goals as goal

pub loop-child-preserved : goal.loop-child-preserved
loop-child-preserved c =
    stop_more c.args.row.now c.loop-child.row c.loop-child.child-index c.set.new.self _ c.loop-child-test.true c.loop-child.invariant c.set.ensures
