-- No version is named.
use Rattle.std.proofs.Common.{◌≡◌, ◌++◌, IfOk, ap, subst, ◌∙◌}
use Rattle.std.proofs.lemmas.Str.{chars-nil}
use Rattle.shell_answers.specs.Answers.{line_of}
use Rattle.shell_answers.specs.Refusals.{Subject, naming}
use Rattle.worker_lines.specs.Telling.{error_told, error_fate}
use Rattle.worker_lines.proofs.telling.tell_error.Goals as goal

pub returns : goal.returns
returns c =
    subst (λ (about : Subject). IfOk c.tell_error_of.result (λ fate. (fate ≡ error_fate c.args.error) × (c.tell_error_of.new.out.items ≡ c.args.out.now.items ++ line_of (error_told about c.args.error)))) (c.naming-about.ensures ∙ ap naming chars-nil) c.tell_error_of.ensures
