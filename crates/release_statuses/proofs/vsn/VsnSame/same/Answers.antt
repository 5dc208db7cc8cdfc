-- Texts of equal characters have equal bytes.
use Rattle.std.proofs.Common.{◌≡◌, true, ap, sym, ◌∙◌}
use Rattle.std.specs.Str.{chars}
use Rattle.std.proofs.lemmas.Slice.Eq.{bytes_eq-Decides}
use Rattle.release_statuses.proofs.Texts.{bytes_from_chars}
use Rattle.release_statuses.proofs.vsn.VsnSame.same.Goals as goal

pub returns : goal.returns
returns c =
    let mine = c.as_str.ensures in
    let its = c.as_str-2.ensures in
    let decides = bytes_eq-Decides c.as_str.result.now c.as_str-2.result.now in
    let same = λ (yes : c.eq.result ≡ true). decides.0 (sym c.eq.ensures ∙ yes) in
    let back = bytes_from_chars c.as_str.result.now c.as_str-2.result.now c.as_str.utf8 c.as_str-2.utf8 in
    (λ yes. sym mine ∙ ap chars (same yes) ∙ its, λ e. c.eq.ensures ∙ decides.1 (back (mine ∙ e ∙ sym its)))
