-- Files in a map, by their paths' bytes.
use Rattle.std.proofs.Common.{◌≡◌, ℕ, List, [], ◌∷◌, Contains, None, Some, cond, map, refl, sym, ap, subst, string_bytes, String, Global}
use Rattle.std.specs.Cmp.Lexicographic.{nat_list_eq_equiv}
use Rattle.std.specs.Map.{keys_of, lookup}
use Rattle.std.specs.Option.{IsSome}
use Rattle.std.proofs.lemmas.Map.Views.{IsSome-lookup_from_Contains}
use Rattle.std.specs.Str.{bytes_eq}
use Rattle.release_files.specs.Files.{Contents, file_of, paths_of}

abbrev pub Held : Type 0
Held = List (String Global × List ℕ)

pub lookup-paths : (path : List ℕ) (es : Held) → lookup (λ k. bytes_eq path (string_bytes k)) es ≡ lookup (bytes_eq path) (map (λ e. (string_bytes e.0, e.1)) es)
lookup-paths path [] = refl
lookup-paths path (e ∷ es) = ap (λ rest. cond (bytes_eq path (string_bytes e.0)) (Some e.1) rest) (lookup-paths path es)

pub keys-paths : (es : Held) → map (λ path. string_bytes path) (keys_of es) ≡ paths_of (map (λ e. (string_bytes e.0, e.1)) es)
keys-paths [] = refl
keys-paths (e ∷ es) = ap (λ rest. string_bytes e.0 ∷ rest) (keys-paths es)

keys-are : (es : Contents) → keys_of es ≡ paths_of es
keys-are [] = refl
keys-are (e ∷ es) = ap (λ rest. e.0 ∷ rest) (keys-are es)

-- where a path stands, a file does
pub stands_somewhere : (path : List ℕ) (files : Contents) → Contains (paths_of files) path → file_of path files ≡ None → ⊥
stands_somewhere path files stands none =
    let found = IsSome-lookup_from_Contains nat_list_eq_equiv path files (subst (λ ps. Contains ps path) (sym (keys-are files)) stands) in
    let impossible : IsSome {T = List ℕ} None = subst IsSome none found in
    none_is_some impossible
  where
    none_is_some : IsSome {T = List ℕ} None → ⊥
    none_is_some is = let no : ⊥ = cc in no
