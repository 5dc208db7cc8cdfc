-- The next index is none of those so far.
use Rattle.std.proofs.Common.{arith}
use Rattle.app_table.proofs.Indices.{fresh, one_more}
use Rattle.app_table.proofs.orders.put_all_in_by_pid.Goals as goal

pub put_in_by_pid-requires-clause-others : goal.put_in_by_pid-requires-clause-others
put_in_by_pid-requires-clause-others c = fresh c.loop-index.index c.loop-index.pids.items c.loop-index.invariant.order.once

pub loop-index-preserved : goal.loop-index-preserved
loop-index-preserved c = record {
  order = record {
    once = one_more c.loop-index.index c.loop-index.pids.items c.put_in_by_pid.new.pids.items c.loop-index.invariant.order.once c.put_in_by_pid.ensures.once;
    rises = c.put_in_by_pid.ensures.rises;
  };
  len = omega (arith, c.put_in_by_pid.ensures.room, c.loop-index.invariant.len);
  room = omega (arith, c.put_in_by_pid.ensures.room, c.loop-index.invariant.room);
}
