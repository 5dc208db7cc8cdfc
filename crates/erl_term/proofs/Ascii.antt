-- The characters of an ASCII text are its bytes.
use Rattle.std.proofs.Common.{◌≡◌, ℕ, Bool, IsTrue, List, [], ◌∷◌, sym, ap, ◌∙◌}
use Rattle.std.specs.Prelude.{encode_utf8_all}
use Rattle.std.specs.Str.{IsAscii, IsUtf8, chars, bytes_eq}
use Rattle.std.proofs.lemmas.Bool.{and_parts, ltb-true}
use Rattle.std.proofs.lemmas.Bool.Decides.{same_from_decides}
use Rattle.std.proofs.lemmas.Slice.Eq.{bytes_eq-Decides}
use Rattle.std.proofs.lemmas.Str.{chars-IsAscii, encodes-chars}
use Rattle.std.proofs.lemmas.Str.Ascii.{IsAscii-nil, IsAscii-cons}
use Rattle.erl_term.specs.Ascii.{is_ascii_text}

pub IsAscii-from_test : (bs : List ℕ) → IsTrue (is_ascii_text bs) → IsAscii bs
IsAscii-from_test [] passes = IsAscii-nil
IsAscii-from_test (b ∷ bs) passes =
    let parts = and_parts _ _ passes in IsAscii-cons b bs (ltb-true b 128 parts.0) (IsAscii-from_test bs parts.1)

pub chars_of-ascii : (bs : List ℕ) → IsTrue (is_ascii_text bs) → chars bs ≡ bs
chars_of-ascii bs passes = chars-IsAscii bs (IsAscii-from_test bs passes)

-- a text is an ASCII word exactly where its characters are the word's bytes
pub is_word : (bs word : List ℕ) (b : Bool) → IsUtf8 bs → IsUtf8 word → IsTrue (is_ascii_text word) → b ≡ bytes_eq bs word → b ≡ bytes_eq (chars bs) word
is_word bs word b utf8 word_utf8 ascii is =
    let same = bytes_eq-Decides bs word in
    let plain = chars_of-ascii word ascii in
    is ∙ same_from_decides (bytes_eq bs word) (bytes_eq (chars bs) word) (λ passes. ap chars (same.0 passes) ∙ plain, λ e. same.1 (sym (encodes-chars bs utf8) ∙ ap encode_utf8_all (e ∙ sym plain) ∙ encodes-chars word word_utf8)) (bytes_eq-Decides (chars bs) word)
