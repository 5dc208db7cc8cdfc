-- Texts by their characters.
use Rattle.std.proofs.Common.{◌≡◌, ℕ, List, ap, sym, ◌∙◌}
use Rattle.std.specs.Str.{IsUtf8, bytes_eq, chars}
use lib.Utf8.{encodes}
use Rattle.std.proofs.lemmas.Bool.Decides.{Decides-like, same_from_decides}
use Rattle.std.proofs.lemmas.Slice.Eq.{bytes_eq-Decides}
use Rattle.std.proofs.lemmas.Str.{encodes-chars}

-- texts of equal characters have equal bytes
pub bytes_from_chars : (bs ds : List ℕ) → IsUtf8 bs → IsUtf8 ds → chars bs ≡ chars ds → bs ≡ ds
bytes_from_chars bs ds one other same = sym (encodes-chars bs one) ∙ ap encodes same ∙ encodes-chars ds other

-- the test of two texts is that of their characters
pub bytes_eq-chars : (bs ds : List ℕ) → IsUtf8 bs → IsUtf8 ds → bytes_eq bs ds ≡ bytes_eq (chars bs) (chars ds)
bytes_eq-chars bs ds one other =
    same_from_decides (bytes_eq bs ds) (bytes_eq (chars bs) (chars ds))
    (Decides-like (bytes_eq bs ds) (λ (e : bs ≡ ds). ap chars e) (bytes_from_chars bs ds one other) (bytes_eq-Decides bs ds))
    (bytes_eq-Decides (chars bs) (chars ds))
