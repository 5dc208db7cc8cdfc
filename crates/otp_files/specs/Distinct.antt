-- Applications none of which stands twice, and which of them has a name.
use Rattle.std.specs.Prelude.{◌≡◌, ℕ, ◌+◌, Bool, true, not, ◌&&◌, if◌then◌else◌, List, [], ◌∷◌, map, Option, None, Some, String}
use Rattle.std.specs.BTreeMap.{BTreeMap, get_by_text}
use Rattle.std.specs.List.{find, list_any}
use Rattle.std.specs.Str.{IsUtf8, bytes_eq, chars}
use Rattle.otp_files.specs.declared.applications.RelApp.{RelApp}

abbrev pub are_distinct : List (List ℕ) → Bool
are_distinct [] = true
are_distinct (name ∷ names) = not (list_any (bytes_eq name) names) && are_distinct names

abbrev pub app_names : List RelApp → List (List ℕ)
app_names apps = map (λ app. app.name) apps

-- the first application of a name
abbrev pub app_named : List ℕ → List RelApp → Option RelApp
app_named name apps = find (λ app. bytes_eq app.name name) apps

-- and its index, where the first of these stands at this index
abbrev pub index_of : ℕ → List ℕ → List RelApp → Option ℕ
index_of index name [] = None
index_of index name (app ∷ apps) = if bytes_eq app.name name then Some index else index_of (index + 1) name apps

-- a map finds these indices by the text of a name
abbrev pub FindsFrom : {A : Type 0} → ℕ → BTreeMap (String A) ℕ → List RelApp → Type 0
FindsFrom index indices apps = (text : List ℕ) → IsUtf8 text → get_by_text indices text ≡ index_of index (chars text) apps
