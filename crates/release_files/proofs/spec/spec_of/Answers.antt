-- By what stands at its path.
use Rattle.std.proofs.Common.{string_bytes, subst, ◌∙◌}
use Rattle.otp_files.specs.Apps.{IsApp}
use Rattle.otp_files.specs.Texts.{IsFile}
use Rattle.release_files.specs.Files.{StandsAs}
use Rattle.release_files.proofs.Judged.{spec_wrong}
use Rattle.release_files.proofs.spec.spec_of.Goals as goal

pub returns-in-Ok-spec_at : goal.returns-in-Ok-spec_at
returns-in-Ok-spec_at c = record {
  says = subst (λ p. StandsAs (IsFile IsApp) c.args.files.now p c.in-Ok-spec_at.spec) (c.as_str.ensures.value ∙ c.in-Ok.ensures) c.in-Ok-spec_at.ensures.0;
  of_name = c.in-Ok-spec_at.ensures.1;
  of_version = c.in-Ok-spec_at.ensures.2;
}

pub returns-in-Err : goal.returns-in-Err
returns-in-Err c =
    spec_wrong c.args.files.now c.args.app.now (string_bytes c.in-Ok.path) c.as_str.result.now c.in-Err.fault c.in-Ok.ensures c.as_str.ensures.value c.in-Err.ensures
