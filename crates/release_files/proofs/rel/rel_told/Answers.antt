-- A fault is told at the path.
use Rattle.std.proofs.Common.{string_bytes}
use Rattle.release_files.specs.Faults.{RelWrong}
use Rattle.release_files.proofs.Judged.{told_of}
use Rattle.release_files.proofs.rel.rel_told.Goals as goal

pub returns-in-Err : goal.returns-in-Err
returns-in-Err c =
    told_of (RelWrong c.args.files.now c.args.vsn.now c.args.path.now) c.args.path.now (string_bytes c.fault_at.result.path) c.in-Err.fault c.fault_at.result.fault c.in-Err.ensures c.fault_at.ensures
