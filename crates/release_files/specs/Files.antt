-- Files below a root.
use Rattle.std.specs.Prelude.{◌≡◌, ℕ, List, map, Option, Some}
use Rattle.std.specs.Map.{lookup}
use Rattle.std.specs.Str.{bytes_eq}

-- files, each as the bytes of its path and its bytes
abbrev pub Contents : Type 0
Contents = List (List ℕ × List ℕ)

-- the bytes of the file at a path
abbrev pub file_of : List ℕ → Contents → Option (List ℕ)
file_of path files = lookup (bytes_eq path) files

abbrev pub paths_of : Contents → List (List ℕ)
paths_of files = map (λ file. file.0) files

-- A file stands at a path, and says something.
pub record StandsAs {A : Type 0} (Says : List ℕ → A → Type 0) (files : Contents) (path : List ℕ) (said : A) : Type 0 where
  pub text : List ℕ
  pub stands : file_of path files ≡ Some text
  pub says : Says text said
