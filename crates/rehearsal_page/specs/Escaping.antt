-- Texts in a page (HTML, Character references).
use Rattle.std.specs.Prelude.{ℕ, ◌==◌, ◌||◌, Bool, List, [], ◌∷◌, codes, filter, if◌then◌else◌}
use Rattle.std.specs.List.{flat_map}

-- A byte of a text: `&`, `<`, `>`, `"` and `'` as references, and any other unchanged. All bytes of other characters in UTF-8
-- are above 127.
abbrev pub escaped_byte : ℕ → List ℕ
escaped_byte b =
    if b == 38 then codes "&amp;" else
    (if b == 60 then codes "&lt;" else
    (if b == 62 then codes "&gt;" else
    (if b == 34 then codes "&quot;" else
    (if b == 39 then codes "&#39;" else b ∷ []))))

-- a text
abbrev pub escaped : List ℕ → List ℕ
escaped text = flat_map escaped_byte text

-- whether a byte begins or ends a tag or a value: `<`, `>`, `"` or `'`
abbrev pub is_bracket : ℕ → Bool
is_bracket b = (b == 60) || ((b == 62) || ((b == 34) || (b == 39)))

-- the brackets among some bytes, in order
abbrev pub brackets : List ℕ → List ℕ
brackets bytes = filter is_bracket bytes
