-- Texts, and the names that they spell.
use Rattle.std.proofs.Common.{◌≡◌, ℕ, Bool, true, false, List, refl, sym, ap, ◌∙◌}
use Rattle.std.specs.Str.{IsUtf8, bytes_eq, chars, is_utf8}
use lib.Utf8.{encodes}
use Rattle.std.proofs.lemmas.Slice.Eq.{bytes_eq-Decides}
use Rattle.std.proofs.lemmas.Str.{IsUtf8-from_is_utf8, encodes-chars}

same_bools : (b c : Bool) → (b ≡ true → c ≡ true) → (c ≡ true → b ≡ true) → b ≡ c
same_bools true true to back = refl
same_bools true false to back = sym (to refl)
same_bools false true to back = back refl
same_bools false false to back = refl

bytes_from_chars : (bs ds : List ℕ) → IsUtf8 bs → IsUtf8 ds → chars bs ≡ chars ds → bs ≡ ds
bytes_from_chars bs ds one other same = sym (encodes-chars bs one) ∙ ap encodes same ∙ encodes-chars ds other

-- texts are equal if their characters are
pub texts_spell : (bs ds name : List ℕ) → IsUtf8 bs → IsUtf8 ds → chars bs ≡ name → bytes_eq bs ds ≡ bytes_eq name (chars ds)
texts_spell bs ds name one other spelled =
    let texts = bytes_eq-Decides bs ds in
    let names = bytes_eq-Decides name (chars ds) in
    same_bools _ _ (λ yes. names.1 (sym spelled ∙ ap chars (texts.0 yes))) (λ yes. texts.1 (bytes_from_chars bs ds one other (spelled ∙ names.0 yes)))

-- a text that is not UTF-8
pub not_utf8 : (bs : List ℕ) → ¬ IsUtf8 bs → is_utf8 bs ≡ false
not_utf8 bs fails = by (is_utf8 bs) refl
  where
    by : (b : Bool) → is_utf8 bs ≡ b → is_utf8 bs ≡ false
    by true e = absurd (fails (IsUtf8-from_is_utf8 bs e))
    by false e = e
