-- Where names stand in a list.
use Rattle.std.specs.Prelude.{◌≡◌, ℕ, ◌+◌, if◌then◌else◌, List, [], ◌∷◌, Option, None, Some, String}
use Rattle.std.specs.BTreeMap.{BTreeMap, get_by_text}
use Rattle.std.specs.Str.{IsUtf8, bytes_eq, chars}
use Rattle.high_instructions.specs.Forms.{Name, Names}

-- the first index of a name, where the first of these stands at this index
abbrev pub index_of : ℕ → Name → Names → Option ℕ
index_of index name [] = None
index_of index name (other ∷ others) = if bytes_eq other name then Some index else index_of (index + 1) name others

-- a map finds these indices by the text of a name
abbrev pub FindsFrom : {A : Type 0} → ℕ → BTreeMap (String A) ℕ → Names → Type 0
FindsFrom index indices names = (text : List ℕ) → IsUtf8 text → get_by_text indices text ≡ index_of index (chars text) names
