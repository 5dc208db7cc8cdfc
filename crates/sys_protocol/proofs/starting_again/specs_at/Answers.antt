-- At each spot stands a child.
use Rattle.std.proofs.Common.{is_some, ap}
use Rattle.sys_protocol.proofs.starting_again.specs_at.Goals as goal

pub child_at-requires : goal.child_at-requires
child_at-requires c =
    let (child, there, none) = c.requires c.loop-spot.spot-index (record { app = 0; child = 0 }) c.loop-spot-test.true in
    ap is_some there
