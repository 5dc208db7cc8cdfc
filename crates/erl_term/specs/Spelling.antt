-- The atoms that a text spells.
use Rattle.std.specs.Prelude.{ℕ, Bool, ◌&&◌, List}
use Rattle.std.specs.Str.{bytes_eq, chars}
use Rattle.erl_term.specs.Text.{utf8}

-- whether a text's characters are an atom's, and its bytes those of the atom's characters
abbrev pub spells : List ℕ → List ℕ → Bool
spells text atom = bytes_eq (chars text) atom && bytes_eq text (utf8 atom)
