-- By what is read there, and its version.
use Rattle.std.proofs.Common.{inr, refl}
use Rattle.release_files.specs.Faults.{rel_of_other}
use Rattle.release_files.proofs.Fronts.{false_not}
use Rattle.release_files.proofs.Judged.{rel_judged}
use Rattle.release_files.proofs.rel.rel_at.Goals as goal

pub returns-then-is_version : goal.returns-then-is_version
returns-then-is_version c =
    (record { text = c.text_at.result.now; stands = c.text_at.ensures; says = c.in-Ok.ensures }, c.is_version.ensures.0 c.if-is_version.true)

pub returns-else-is_version : goal.returns-else-is_version
returns-else-is_version c =
    inr (rel_of_other c.in-Ok.rel (record { text = c.text_at.result.now; stands = c.text_at.ensures; says = c.in-Ok.ensures }) (λ same. false_not c.is_version.result c.if-is_version.false (c.is_version.ensures.1 same)) refl)

pub returns-in-Err : goal.returns-in-Err
returns-in-Err c =
    rel_judged c.args.files.now c.args.vsn.now c.args.path.now c.text_at.result.now c.in-Err.error c.of_file.result c.text_at.ensures c.in-Err.ensures c.of_file.ensures
