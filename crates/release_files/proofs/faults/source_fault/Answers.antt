-- By what is read, or told.
use Rattle.release_files.specs.Found.{finds_module}
use Rattle.std.proofs.Common.{refl}
use Rattle.release_files.proofs.Looked.{source_told_once}
use Rattle.release_files.proofs.faults.source_fault.Goals as goal

pub returns-in-Ok : goal.returns-in-Ok
returns-in-Ok c =
    finds_module c.in-Ok.field-0 c.in-Ok.ensures.0 c.in-Ok.ensures.1 c.in-Ok.ensures.2 refl

pub returns : goal.returns
returns c =
    source_told_once c.add_fault.result c.args.files.now c.args.app.now c.args.name.now c.args.seen.now c.source_of.new.seen c.args.found.now.items c.add_fault.new.found.items c.in-Err.fault c.in-Err.ensures c.add_fault.ensures
