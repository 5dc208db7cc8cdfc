-- By what is told.
use Rattle.release_files.specs.Faults.{SpecFault}
use Rattle.release_files.proofs.Looked.{told_once}
use Rattle.release_files.proofs.faults.spec_or_fault.Goals as goal

pub returns-in_ok-add_fault-in-Err : goal.returns-in_ok-add_fault-in-Err
returns-in_ok-add_fault-in-Err c =
    told_once (SpecFault c.args.files.now c.args.app.now) c.args.found.now.items c.add_fault.new.found.items c.in-Err.fault c.in-Err.ensures c.in_ok-add_fault-in-Err.ensures
