-- By what stands at its path.
use Rattle.std.proofs.Common.{string_bytes, sym, ap, ◌∙◌}
use Rattle.release_files.specs.Files.{file_of}
use Rattle.release_files.proofs.Judged.{appup_judged}
use Rattle.release_files.proofs.spec.appup_of.Goals as goal

pub returns-in_default-get : goal.returns-in_default-get
returns-in_default-get c =
    ap (λ p. file_of p c.args.files.now) (sym (c.as_str.ensures.value ∙ c.in-Ok.ensures)) ∙ c.in_default-get.ensures

pub returns-in-Ok-read_appup : goal.returns-in-Ok-read_appup
returns-in-Ok-read_appup c = record {
  text = c.in-Some.text.now;
  stands = ap (λ p. file_of p c.args.files.now) (sym (c.as_str.ensures.value ∙ c.in-Ok.ensures)) ∙ c.in-Some.ensures;
  says = c.in-Ok-read_appup.ensures;
}

pub returns-in-Err : goal.returns-in-Err
returns-in-Err c =
    appup_judged c.args.files.now c.args.app.now (string_bytes c.in-Ok.path) c.as_str.result.now c.in-Some.text.now c.in-Err.error c.of_file-fault.result c.in-Ok.ensures c.as_str.ensures.value c.in-Some.ensures c.in-Err.ensures c.of_file-fault.ensures
