-- Those that are noted soft, without those in which somebody lingers.
use Rattle.unpurged_code.proofs.Gathering.{left_alone}
use Rattle.unpurged_code.proofs.listing.to_sweep.Goals as goal

pub returns : goal.returns
returns c =
    left_alone c.args.modules.now c.args.processes.now c.in_ok-names.names.items c.keep_left_alone.new.names.items
    c.in_ok-names.ensures c.keep_left_alone.ensures
