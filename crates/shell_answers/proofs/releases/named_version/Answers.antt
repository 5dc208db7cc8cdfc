-- The characters of the name, a dash, and those of the version.
use Rattle.std.proofs.Common.{◌++◌, ◌∷◌, ap, ◌∙◌, string_bytes}
use Rattle.std.proofs.lemmas.Str.{IsUtf8-string_bytes}
use Rattle.std.specs.Str.{chars}
use Rattle.shell_answers.proofs.Texts.{dashed}
use Rattle.shell_answers.proofs.releases.named_version.Goals as goal

pub returns : goal.returns
returns c =
    dashed c.as_str.result.now c.as_str-2.result.now (string_bytes c.in_ok-name.name) (string_bytes c.push.new.self) (string_bytes c.push_str.new.self) c.as_str.utf8 (IsUtf8-string_bytes c.push.new.self) c.in_ok-name.ensures.ok c.in_ok-push.ensures.bytes c.in_ok-push_str.ensures.bytes
    ∙ ap (λ cs. cs ++ 45 ∷ chars c.as_str-2.result.now) c.as_str.ensures.chars ∙ ap (λ cs. c.args.app.now.name ++ 45 ∷ cs) c.as_str-2.ensures.chars
