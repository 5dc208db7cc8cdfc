-- Texts have equal characters exactly where they have equal bytes.
use Rattle.std.proofs.Common.{◌≡◌, ℕ, Bool, List, ap, sym, ◌∙◌}
use Rattle.std.specs.Str.{IsUtf8, chars, bytes_eq}
use lib.Utf8.{encodes}
use Rattle.std.proofs.lemmas.Bool.Decides.{same_from_decides}
use Rattle.std.proofs.lemmas.Slice.Eq.{bytes_eq-Decides}
use Rattle.std.proofs.lemmas.Str.{encodes-chars}

bytes_from_chars : (bs ds : List ℕ) → IsUtf8 bs → IsUtf8 ds → chars bs ≡ chars ds → bs ≡ ds
bytes_from_chars bs ds one other same = sym (encodes-chars bs one) ∙ ap encodes same ∙ encodes-chars ds other

pub same_chars : (bs ds : List ℕ) (b : Bool) → IsUtf8 bs → IsUtf8 ds → b ≡ bytes_eq bs ds → b ≡ bytes_eq (chars bs) (chars ds)
same_chars bs ds b one other is =
    let same = bytes_eq-Decides bs ds in
    is ∙ same_from_decides (bytes_eq bs ds) (bytes_eq (chars bs) (chars ds)) (λ passes. ap chars (same.0 passes), λ e. same.1 (bytes_from_chars bs ds one other e)) (bytes_eq-Decides (chars bs) (chars ds))

-- the same of names that have these characters
pub same_names : (bs ds ns ms : List ℕ) (b : Bool) → IsUtf8 bs → IsUtf8 ds → b ≡ bytes_eq bs ds → chars bs ≡ ns → chars ds ≡ ms → b ≡ bytes_eq ns ms
same_names bs ds ns ms b one other is first second =
    same_chars bs ds b one other is ∙ ap (λ cs. bytes_eq cs (chars ds)) first ∙ ap (λ cs. bytes_eq ns cs) second
