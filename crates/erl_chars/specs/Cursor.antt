-- A cursor as contracts see it.
use Rattle.std.specs.Prelude.{ℕ, ◌-◌, List, [], ◌∷◌, length, Option, Some, None}
use Rattle.std.specs.Str.{chars}
use lib.Utf8.{encodes}
use Rattle.erl_chars.specs.declared.cursor.Cursor.{Cursor}

-- the characters that are left, as code points
abbrev pub left : Cursor → List ℕ
left c = chars c.rest.now

-- how many bytes the whole text has
abbrev pub total : Cursor → ℕ
total c = c.total

-- how many bytes characters have in UTF-8
unfoldable pub byte_count : List ℕ → ℕ
byte_count cs = length (encodes cs)

-- the offset in a text of so many bytes at which these of its characters are left: how many bytes stand before it
abbrev pub offset : ℕ → List ℕ → ℕ
offset whole cs = whole - byte_count cs

abbrev pub first_of : List ℕ → Option ℕ
first_of [] = None
first_of (c ∷ cs) = Some c

abbrev pub after_first : List ℕ → List ℕ
after_first [] = []
after_first (c ∷ cs) = cs
