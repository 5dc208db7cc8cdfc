-- By what is told.
use Rattle.release_files.specs.Found.{HasRelup}
use Rattle.release_files.specs.Faults.{RelupFault}
use Rattle.release_files.proofs.Looked.{told_or_none}
use Rattle.release_files.proofs.faults.relup_fault.Goals as goal

pub returns : goal.returns
returns c =
    told_or_none c.add_fault.result (HasRelup c.args.files.now c.args.vsn.now) (RelupFault c.args.files.now c.args.vsn.now) c.args.found.now.items c.add_fault.new.found.items c.in-Err.fault c.in-Err.ensures c.add_fault.ensures
