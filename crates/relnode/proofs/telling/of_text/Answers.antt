-- What is shown on an empty line is one line.
use Rattle.std.proofs.Common.{◌≡◌, false, subst, sym, ap, ◌∙◌}
use Rattle.std.specs.Str.{chars}
use Rattle.std.proofs.lemmas.List.Elements.{All-nil}
use Rattle.std.proofs.lemmas.Str.{chars-nil}
use Rattle.diagnostics.specs.Shown.{IsOneLine, is_hidden}
use Rattle.relnode.proofs.telling.of_text.Goals as goal

pub returns : goal.returns
returns c =
    let begun = subst (λ cs. IsOneLine cs) (sym (ap chars c.new-line.ensures.bytes ∙ chars-nil)) (All-nil (λ d. is_hidden d ≡ false)) in
    c.push_shown.ensures.one_line begun
