-- By what is read there, its name and its version.
use Rattle.std.proofs.Common.{inr, refl}
use Rattle.release_files.specs.Faults.{no_spec, spec_of_name, spec_of_version}
use Rattle.release_files.proofs.Fronts.{false_not}
use Rattle.release_files.proofs.Judged.{spec_judged}
use Rattle.release_files.proofs.spec.spec_at.Goals as goal

pub returns-in_default : goal.returns-in_default
returns-in_default c = inr (no_spec c.in_default.ensures refl)

pub returns-then-not-same : goal.returns-then-not-same
returns-then-not-same c =
    inr (spec_of_name c.in-Ok.spec (record { text = c.in-Some.text.now; stands = c.in-Some.ensures; says = c.in-Ok.ensures }) (λ same. false_not c.same.result c.if-not-same.true (c.same.ensures.1 same)) refl)

pub returns-then-not-same-2 : goal.returns-then-not-same-2
returns-then-not-same-2 c =
    inr (spec_of_version c.in-Ok.spec (record { text = c.in-Some.text.now; stands = c.in-Some.ensures; says = c.in-Ok.ensures }) (c.same.ensures.0 c.if-not-same.false) (λ same. false_not c.same-in-Ok.result c.if-not-same-2.true (c.same-in-Ok.ensures.1 same)) refl)

pub returns-else-not-same-2 : goal.returns-else-not-same-2
returns-else-not-same-2 c =
    (record { text = c.in-Some.text.now; stands = c.in-Some.ensures; says = c.in-Ok.ensures }, c.same.ensures.0 c.if-not-same.false, c.same-in-Ok.ensures.0 c.if-not-same-2.false)

pub returns-in-Err : goal.returns-in-Err
returns-in-Err c =
    spec_judged c.args.files.now c.args.app.now c.args.path.now c.in-Some.text.now c.in-Err.error c.of_file.result c.in-Some.ensures c.in-Err.ensures c.of_file.ensures
