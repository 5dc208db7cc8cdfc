-- Texts have equal characters exactly where they have equal bytes.
use Rattle.std.proofs.Common.{◌≡◌, ◌↔◌, ℕ, Bool, List, IsTrue, ap, sym, ◌∙◌}
use Rattle.std.specs.Str.{IsUtf8, bytes_eq, chars}
use lib.Utf8.{encodes}
use Rattle.std.proofs.lemmas.Slice.Eq.{bytes_eq-Decides}
use Rattle.std.proofs.lemmas.Str.{encodes-chars}

bytes_from_chars : (bs ds : List ℕ) → IsUtf8 bs → IsUtf8 ds → chars bs ≡ chars ds → bs ≡ ds
bytes_from_chars bs ds one other same = sym (encodes-chars bs one) ∙ ap encodes same ∙ encodes-chars ds other

-- two texts are equal exactly where the lists are that are their characters
pub same_from_texts : (bs ds cs es : List ℕ) (b : Bool) → IsUtf8 bs → IsUtf8 ds → b ≡ bytes_eq bs ds → chars bs ≡ cs → chars ds ≡ es → IsTrue b ↔ (cs ≡ es)
same_from_texts bs ds cs es b one other is mine its =
    let decides = bytes_eq-Decides bs ds in
    (λ yes. sym mine ∙ ap chars (decides.0 (sym is ∙ yes)) ∙ its, λ e. is ∙ decides.1 (bytes_from_chars bs ds one other (mine ∙ e ∙ sym its)))
