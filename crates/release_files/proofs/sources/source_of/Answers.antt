-- By what stands at its path.
use Rattle.std.proofs.Common.{string_bytes}
use Rattle.release_files.proofs.Judged.{module_stands, source_wrong_at}
use Rattle.release_files.proofs.sources.source_of.Goals as goal

pub returns-in-Ok-source_at : goal.returns-in-Ok-source_at
returns-in-Ok-source_at c =
    let read = c.in-Ok-source_at.ensures in
    (module_stands c.args.files.now c.args.app.now c.args.name.now (string_bytes c.in-Ok.path) c.as_str.result.now c.in-Ok-source_at.read c.in-Ok.ensures c.as_str.ensures.value read.0 read.1, read.2, read.3)

pub returns-in-Err : goal.returns-in-Err
returns-in-Err c =
    source_wrong_at c.args.files.now c.args.app.now c.args.seen.now c.source_at.new.seen c.args.name.now (string_bytes c.in-Ok.path) c.as_str.result.now c.in-Err.fault c.in-Ok.ensures c.as_str.ensures.value c.in-Err.ensures
