-- Texts of equal characters have equal bytes.
use Rattle.std.proofs.Common.{◌≡◌, ℕ, List, ap, sym, ◌∙◌}
use Rattle.std.specs.Prelude.{encode_utf8_all}
use Rattle.std.specs.Str.{IsUtf8, chars}
use Rattle.std.proofs.lemmas.Slice.Eq.{bytes_eq-Decides}
use Rattle.std.proofs.lemmas.Str.{encodes-chars}
use Rattle.release_files.proofs.rel.is_version.Goals as goal

bytes_from_chars : (bs ds : List ℕ) → IsUtf8 bs → IsUtf8 ds → chars bs ≡ chars ds → bs ≡ ds
bytes_from_chars bs ds one other same =
    sym (encodes-chars bs one) ∙ ap encode_utf8_all same ∙ encodes-chars ds other

pub returns : goal.returns
returns c =
    let version = c.as_str.ensures.chars in
    let decides = bytes_eq-Decides c.as_str.result.now c.args.vsn.now in
    (λ yes. sym version ∙ ap chars (decides.0 (sym c.eq.ensures ∙ yes)), λ e. c.eq.ensures ∙ decides.1 (bytes_from_chars c.as_str.result.now c.args.vsn.now c.as_str.utf8 c.utf8.vsn (version ∙ e)))
