-- Texts are one where their characters are.
use Rattle.std.proofs.Common.{ap, ◌∙◌}
use Rattle.std.specs.Str.{bytes_eq, chars}
use Rattle.release_statuses.proofs.Texts.{bytes_eq-chars}
use Rattle.release_statuses.proofs.indices.is_of.Goals as goal

pub returns : goal.returns
returns c =
    c.eq.ensures ∙ bytes_eq-chars c.args.vsn.now c.as_str.result.now c.utf8.vsn c.as_str.utf8 ∙
    ap (bytes_eq (chars c.args.vsn.now)) c.as_str.ensures.chars
