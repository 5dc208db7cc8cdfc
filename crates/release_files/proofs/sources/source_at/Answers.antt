-- By the module that stands there, and the names that were seen.
use Rattle.std.proofs.Common.{inr, refl}
use Rattle.release_files.specs.Faults.{known_module}
use Rattle.release_files.proofs.Judged.{source_judged}
use Rattle.release_files.proofs.sources.source_at.Goals as goal

pub returns-in-Ok-true : goal.returns-in-Ok-true
returns-in-Ok-true c =
    let new = rw c.in-Ok-true.field-0-test at c.in-Ok-true.ensures in
    (c.in-Ok.ensures.0, c.in-Ok.ensures.1, new.0, new.1)

pub returns-in-Ok-false : goal.returns-in-Ok-false
returns-in-Ok-false c =
    let known = rw c.in-Ok-false.field-0-test at c.in-Ok-false.ensures in
    inr (known_module c.in-Ok.read c.in-Ok.ensures.0 c.in-Ok.ensures.1 known.0 refl, known.1)

pub returns-in-Err : goal.returns-in-Err
returns-in-Err c =
    source_judged c.args.files.now c.args.seen.now c.args.name.now c.args.path.now c.in-Err.fault c.in-Err.ensures
