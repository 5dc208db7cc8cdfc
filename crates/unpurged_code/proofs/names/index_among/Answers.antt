-- None stands behind it, so it stands past all.
use Rattle.std.proofs.Common.{sym}
use Rattle.unpurged_code.proofs.Rising.{found_nowhere}
use Rattle.unpurged_code.specs.Names.{stands_before}
use Rattle.unpurged_code.proofs.names.index_among.Goals as goal

pub returns-in-None-clause-index : goal.returns-in-None-clause-index
returns-in-None-clause-index c =
    found_nowhere (stands_before c.args.name.now) c.args.names.now (sym c.in-None.ensures)
