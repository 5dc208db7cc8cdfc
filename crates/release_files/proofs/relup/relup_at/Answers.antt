-- By what is read there, and its version.
use Rattle.std.proofs.Common.{inr, refl}
use Rattle.release_files.specs.Faults.{relup_of_other}
use Rattle.release_files.proofs.Fronts.{false_not}
use Rattle.release_files.proofs.Judged.{relup_judged}
use Rattle.release_files.proofs.relup.relup_at.Goals as goal

pub returns-then-is_version : goal.returns-then-is_version
returns-then-is_version c =
    (record { text = c.in-Some.text.now; stands = c.in-Some.ensures; says = c.in-Ok.ensures }, c.is_version.ensures.0 c.if-is_version.true)

pub returns-else-is_version : goal.returns-else-is_version
returns-else-is_version c =
    inr (relup_of_other c.in-Ok.relup (record { text = c.in-Some.text.now; stands = c.in-Some.ensures; says = c.in-Ok.ensures }) (λ same. false_not c.is_version.result c.if-is_version.false (c.is_version.ensures.1 same)) refl)

pub returns-in-Err : goal.returns-in-Err
returns-in-Err c =
    relup_judged c.args.files.now c.args.vsn.now c.args.path.now c.in-Some.text.now c.in-Err.error c.of_file.result c.in-Some.ensures c.in-Err.ensures c.of_file.ensures
