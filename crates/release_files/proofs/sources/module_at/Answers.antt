-- By what is read there, and its name.
use Rattle.std.proofs.Common.{inr, refl, sym, ◌∙◌}
use Rattle.release_files.specs.Faults.{no_source, other_module}
use Rattle.release_files.proofs.Fronts.{false_not}
use Rattle.release_files.proofs.Judged.{module_judged}
use Rattle.release_files.proofs.sources.module_at.Goals as goal

pub returns-in_default : goal.returns-in_default
returns-in_default c = inr (no_source c.in_default.ensures refl)

pub returns-then-same : goal.returns-then-same
returns-then-same c =
    (record { text = c.in-Some.text.now; stands = c.in-Some.ensures; says = c.in-Ok.ensures.found }, sym c.name.ensures ∙ c.same.ensures.0 c.if-same.true)

pub returns-else-same : goal.returns-else-same
returns-else-same c =
    inr (other_module c.in-Ok.read (record { text = c.in-Some.text.now; stands = c.in-Some.ensures; says = c.in-Ok.ensures.found }) (λ same. false_not c.same.result c.if-same.false (c.same.ensures.1 (c.name.ensures ∙ same))) refl)

pub returns-in-Err : goal.returns-in-Err
returns-in-Err c =
    module_judged c.args.files.now c.args.name.now c.args.path.now c.in-Some.text.now c.in-Err.failure c.of_source.result c.in-Some.ensures c.in-Err.ensures.refused c.in-Err.ensures.meaningless c.of_source.ensures
