-- None is left.
use Rattle.node_restart.proofs.Serials.{all_given}
use Rattle.node_restart.proofs.restarting.has_serials.Goals as goal

pub returns : goal.returns
returns c =
    all_given c.args.apps.now c.loop-app.app-index c.loop-app.last c.args.last c.loop-app-test.false c.loop-app.invariant.sum c.loop-app.invariant.fits
