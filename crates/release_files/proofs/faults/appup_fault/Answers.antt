-- By what is told.
use Rattle.release_files.specs.Found.{HasAppup}
use Rattle.release_files.specs.Faults.{AppupFault}
use Rattle.release_files.proofs.Looked.{told_or_none}
use Rattle.release_files.proofs.faults.appup_fault.Goals as goal

pub returns : goal.returns
returns c =
    told_or_none c.add_fault.result (HasAppup c.args.files.now c.args.app.now) (AppupFault c.args.files.now c.args.app.now) c.args.found.now.items c.add_fault.new.found.items c.in-Err.fault c.in-Err.ensures c.add_fault.ensures
